-- The words of definitions and lemmas that proofs cite, from one place.
pub use Rattle.core.proofs.alloc.Calls.{Al, Goes-blank, handle_tells}
pub use Rattle.core.proofs.alloc.Shapes.{after}
pub use Rattle.core.proofs.atomic.Steps.{fm}
pub use Rattle.core.proofs.cell.Inside.{Good}
pub use Rattle.core.proofs.option.Made.{Some-of, none_of}
pub use Rattle.nullable_box.specs.Held.{held}
pub use Rattle.nullable_box.specs.Shown.{lent}
pub use Rattle.std.proofs.Common.{List, None, Option, Some, [], ap, lit<, refl, subst, sym, ℕ, ◌++◌, ◌∙◌, ◌∷◌, ◌≡◌}
pub use Rattle.std.proofs.GlobalToken.{dealloc_token-Testable}
pub use Rattle.std.proofs.raw_atomic.Walks.{leaves, proved_at}
pub use Rattle.std.specs.Box.Ownership.{box_owns}
pub use Rattle.std.specs.Ptr.{points_to, static_ref_at}
pub use Rattle.std.specs.contracts.impls.GlobalAllocator.TheImpl.{dict, ghosts}
pub use Rattle.std.specs.declared.alloc.Global.{Global}
pub use Rattle.std_alloc.proofs.ResultValues.{and_tt}
pub use base.Fml.{Fml, Lft, Share, ffalse, flft, fsep, ftrue}
pub use base.Fraction.{full_share}
pub use base.Logic.{SProp, emp, ent, fst∗, guard, guard_i, id⊢, never, never_e, snd∗, via}
pub use contract.BorrowLft.{⊑_refl, ⊑_static, ◌⊑◌}
pub use contract.Monad.{fact, fact_i, fact_use}
pub use contract.Running.{MachineTables, Running, tables}
pub use denote.Exit.{Last, left, no, rest, yes}
pub use denote.Laws.{Is, shows}
pub use denote.Memory.{lone, shared_of}
pub use denote.Opens.{hide}
pub use denote.Param.{arg, bounded, layout, layouts, param}
pub use denote.Param.Laws.{Laws, arg_laws, param_laws}
pub use denote.Param.NoDrop.{glues as no_drops}
pub use denote.RattleType.{RattleType, Valss, owns}
pub use denote.RawPtr.{Ptr, RawPtr, Testable, block_ptr, null_ptr, ptr_val, tests_null}
pub use denote.Ref.{Bor, ShrRef}
pub use denote.SharingLaws.{shortens}
pub use denote.Signature.{plain, type_at, types_at}
pub use denote.Steps.{heard, nothing, only, peeks}
pub use denote.Struct.Struct.{Struct, within}
pub use denote.Triple.Call.{calls_at, calls_at_last}
pub use denote.Triple.Entry.{alive}
pub use denote.Triple.Clauses.{Clauses, Ended, Lasts, closing, lasts}
pub use denote.Triple.Spec.{Meets, triple_of}
pub use denote.Triple.Walked.{Goes-dropped, Stays, stay_dropped, walk_of}
pub use lib.Dec.{T}
pub use mathlib.Core.Bool.{true, ◌&&◌}
pub use mir.MapTy.{inst_fn}
pub use mir.Raw.{raw as bare}
pub use mir.Syntax.{Callee, Dict, Fn, Sym, a_type, aggregate, assign, copy, dcons, dnil, field, impl, local, named, place, return, rv_opd, seq, tcons, tnil, ty_ptr, ty_struct, value_local}
pub use mir.Val.{Val, WT, has_ty, of_list, vcons, vnil, vptr, vstruct}
pub use prog.Model.{Model}
pub use prog.Wp.{Closed, WpFn}
pub use seplogic.Ra.Ura.{Ura}
pub use types.ByLocal.{alloc_all, env, free_all, get, get_in, lands_as, lands_last, look_at, pass_all, sets, sets_last, through}
pub use types.Kit.{ !, Goal, Item, Seq, Step, at_ret, await, by, drop, feq_i, feq_l, fjoin, fpack, fpick, fsplit, given, join, keep, later, learn, move, pick, prop, qed, raw, regoal, rewrite, some, split, split3, step, use0, use1, ‵, ◌$◌, ◌∵◌, ◌⊛◌}
pub use types.Logic.{Logic, sem}
pub use types.Match.{live}
pub use types.Part.{agg, sub, whole}
pub use types.Run.{addr, and_then, bin, blocks, branches, enter, exec, first, fld, lit, no_more, of_opd, returns, returns_within, skips, stop}
