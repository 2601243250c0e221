-- What a handle owns: nothing if it is empty, and otherwise the block of a box.
use Rattle.std.specs.Prelude.{Bool, true, false, Option, Some, None}
use base.Fml.{Fml, ftrue, ffalse, fex}
use denote.RattleType.{RattleType}
use denote.RawPtr.{Ptr}
use Rattle.std_alloc.specs.Box.Ownership.{box_owns}
use Rattle.std_heap.specs.declared.Global.{Global}
use Rattle.std_heap.specs.contracts.GlobalAllocator.TheImpl.{ghosts}

-- the block of a box with this value is at the pointer
abbrev pub box_at : (R : RattleType) → Global → Ptr → R.Denot → Fml
box_at R g p x = box_owns (ghosts.dealloc_token g) R p x

-- the value that the flag stands for is at the pointer, or nothing
unfoldable pub full_or_empty : {X : Type 0} → (Global → Ptr → X → Fml) → Bool → Ptr → Option X → Fml
full_or_empty kept true p (Some x) = fex Global (λ g. kept g p x)
full_or_empty kept true p None = ffalse
full_or_empty kept false p (Some x) = ffalse
full_or_empty kept false p None = ftrue

abbrev pub handle_owns : (R : RattleType) → Bool → Ptr → Option R.Denot → Fml
handle_owns R full p state = full_or_empty (box_at R) full p state
