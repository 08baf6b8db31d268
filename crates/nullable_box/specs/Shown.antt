-- What the pointer shows by which a program in C lends a value.
use base.Fml.{Fml, ftrue, ffalse, fex, fsep}
use denote.RattleType.{RattleType}
use denote.RawPtr.{Ptr, block_ptr, null_ptr, Testable}
use Rattle.std.specs.Prelude.{Option, None, Some}
use Rattle.std.specs.Ptr.{static_ref_at}

-- With a value, what a shared reference to it shows, and that the pointer may be compared with null. With none it is null.
abbrev pub lent : (R : RattleType) → Ptr → Option R.Denot → Fml
lent R null_ptr None = ftrue
lent R null_ptr (Some x) = ffalse
lent R (block_ptr b o) None = ffalse
lent R (block_ptr b o) (Some x) = fsep (fex (Testable (block_ptr b o)) (λ _. ftrue)) (static_ref_at R (block_ptr b o) x)
