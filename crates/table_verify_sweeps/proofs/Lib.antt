mod KeptLaws
mod SweepLaws
