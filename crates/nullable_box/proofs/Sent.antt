-- What a handle's pointer owns, and what it shows, says the same to every thread.
use base.Shift.{Keyless}
use denote.Param.Send.{IsSend, IsSync, part_keyless}
use Rattle.nullable_box.proofs.Words.{[], Option, None, Some, full_share, RattleType, Ptr, block_ptr, null_ptr, lone, bare, held, lent, ℕ}
use Rattle.std.proofs.Crossing.{frees}

-- a box may go to another thread, if its value may
pub held_keyless : (R : RattleType) → IsSend R → (p : Ptr) (v : Option R.Denot) → Keyless (held R p v)
held_keyless R s null_ptr None = tt
held_keyless R s null_ptr (Some x) = tt
held_keyless R s (block_ptr b o) None = tt
held_keyless R s (block_ptr b o) (Some x) = (part_keyless R s full_share x b o, frees.frees _ (bare (lone R.mir)) (block_ptr b o))

-- what is lent may be read in another thread, if a reference to it may go there
pub lent_keyless : (R : RattleType) → IsSync R → (p : Ptr) (v : Option R.Denot) → Keyless (lent R p v)
lent_keyless R y null_ptr None = tt
lent_keyless R y null_ptr (Some x) = tt
lent_keyless R y (block_ptr b o) None = tt
lent_keyless R y (block_ptr b o) (Some x) = ((λ can. tt), (tt, y.shared x b o []))
