-- The number of each case: as a byte of a fragment, or as it is reported.
use Rattle.std.specs.Prelude.{ℕ}
use Rattle.fragment.specs.declared.cause.Cause.{Cause}
use Rattle.fragment.specs.declared.cause.Cause.TheVariants.{BadLayout, BadRow, BadHead, BadSlot}
use Rattle.fragment.specs.declared.layout.Layout.{Layout}
use Rattle.fragment.specs.declared.layout.Layout.TheVariants.{One, Two}
use Rattle.fragment.specs.declared.delta.Kind.{Kind}
use Rattle.fragment.specs.declared.delta.Kind.TheVariants.{Write, Trim}

abbrev pub cause_number : Cause → ℕ
cause_number BadLayout = 1
cause_number BadRow = 2
cause_number BadHead = 3
cause_number BadSlot = 4

abbrev pub layout_number : Layout → ℕ
layout_number One = 1
layout_number Two = 2

-- of a filled slot; an empty one has 0
abbrev pub kind_number : Kind → ℕ
kind_number Write = 1
kind_number Trim = 2
