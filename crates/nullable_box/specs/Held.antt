-- What the pointer owns by which a handle for C holds a value.
use base.Fml.{Fml, ftrue, ffalse}
use denote.RattleType.{RattleType}
use denote.RawPtr.{Ptr, block_ptr, null_ptr}
use Rattle.std.specs.Prelude.{Option, None, Some}
use Rattle.std.specs.Box.Ownership.{box_owns}
use Rattle.std.specs.contracts.impls.GlobalAllocator.TheImpl.{ghosts}

-- With a value, what a box of the heap with that value owns, and the pointer is not null. With none it owns nothing, and is null.
abbrev pub held : (R : RattleType) → Ptr → Option R.Denot → Fml
held R null_ptr None = ftrue
held R null_ptr (Some x) = ffalse
held R (block_ptr b o) None = ffalse
held R (block_ptr b o) (Some x) = box_owns (ghosts.dealloc_token (record { memory = record { seal = tt } })) R (block_ptr b o) x
