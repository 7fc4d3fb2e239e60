mod Examples
mod Found
mod LineLaws
mod LineParts
mod Printed
mod SameTyping
mod SigLaws
mod TypeExits
