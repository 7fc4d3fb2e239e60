-- Worked examples of the definitions.
use Rattle.std.proofs.Common.{◌≡◌, ◌-◌, ◌^◌, [], ◌∷◌, true, false, Some, None, inl, inr, refl, lit<, arith}
use Rattle.da_shelf.specs.Counts.{raised, Rose}
use Rattle.da_shelf.specs.Told.{appended}
use Rattle.da_shelf.specs.ShelfState.{empty_shelf, read_fails, after_read, replace_fails, after_replace}
use Rattle.da_shelf.specs.SinkState.{empty_sink, write_fails, bytes_taken, after_taking, after_fault}

raised-once : raised 3 ≡ 4
raised-once = refl

raised-at_last : raised (2 ^ 64 - 1) ≡ 2 ^ 64 - 1
raised-at_last = refl

rose-once : Rose 3 4
rose-once = inl (lit< tt)

rose-at_last : Rose (2 ^ 64 - 1) (2 ^ 64 - 1)
rose-at_last = inr refl

rose-never : ¬ (Rose 3 3)
rose-never = grind arith

appended-told : appended (Some (1 ∷ [])) (2 ∷ 3 ∷ []) ≡ Some (1 ∷ 2 ∷ 3 ∷ [])
appended-told = refl

appended-untold : appended None (2 ∷ 3 ∷ []) ≡ None
appended-untold = refl

-- the second read of three fails
first_read-works : read_fails (empty_shelf (2 ∷ []) []) ≡ false
first_read-works = refl

second_read-fails : read_fails (after_read (empty_shelf (2 ∷ []) [])) ≡ true
second_read-fails = refl

second_read-counts : (after_read (after_read (empty_shelf (2 ∷ []) []))).read_faults ≡ 1
second_read-counts = refl

third_read-works : read_fails (after_read (after_read (empty_shelf (2 ∷ []) []))) ≡ false
third_read-works = refl

-- a piece of three at a cap of two, with room for three in all
write-capped : bytes_taken (empty_sink 2 3 []) (7 ∷ 8 ∷ 9 ∷ []) ≡ 2
write-capped = refl

write-taken : (after_taking (empty_sink 2 3 []) 2 (7 ∷ 8 ∷ 9 ∷ [])).written ≡ 7 ∷ 8 ∷ []
write-taken = refl

write-in_tight_room : bytes_taken (after_taking (empty_sink 2 3 []) 2 (7 ∷ 8 ∷ 9 ∷ [])) (9 ∷ 9 ∷ []) ≡ 1
write-in_tight_room = refl

write-without_room : write_fails (empty_sink 2 0 []) ≡ true
write-without_room = refl

write-listed : write_fails (after_fault (empty_sink 2 3 (2 ∷ []))) ≡ true
write-listed = refl

-- the second replace of three fails, whatever is read meanwhile
second_replace-fails : replace_fails (after_read (after_replace (empty_shelf [] (2 ∷ [])))) ≡ true
second_replace-fails = refl

second_replace-counts : (after_replace (after_replace (empty_shelf [] (2 ∷ [])))).replace_faults ≡ 1
second_replace-counts = refl

third_replace-works : replace_fails (after_replace (after_replace (empty_shelf [] (2 ∷ [])))) ≡ false
third_replace-works = refl
