-- The words of definitions and lemmas that proofs cite, from one place.
pub use Rattle.jsonpath_c.specs.Exports.{IsFaultTold, IsRefusedWith, IsTold, hint_text, rule_of}
pub use Rattle.jsonpath_c.specs.Handles.{AnswersLinesOf, AreFirstLines, AreFirstNodes, HoldOf, IsBeyond, IsNodeBeyond, SelectsFrom, TellsFault, TellsSome, form_of, functions_of, name_bytes}
pub use Rattle.jsonpath_c.specs.Inside.{AreLeft, AreLinesFrom, ArePut, AreWithin, HasNoRoomFor, IsLeftAfter, IsReached, TookLines}
pub use Rattle.jsonpath_c.specs.Words.{CallsByPatternOn, Data, Form, IsLine, IsLineOfEach, IsNoPath, IsReportIn, IsUtf8, KeptNode, Located, Location, MemoryFault, ReadsAs, Step, builtin_functions, compact_lines, document_of, fault_message, first_places, kept, located, message_of, normal, path_tree, query_of, rest, set_of, view, whole_numbers}
pub use Rattle.jsonpath_c.specs.declared.bounded.BoundedLines.{BoundedLines}
pub use Rattle.jsonpath_c.specs.declared.bounded.FirstLines.{FirstLines}
pub use Rattle.jsonpath_c.specs.declared.bounded_list.BoundedList.{BoundedList}
pub use Rattle.jsonpath_c.specs.declared.compiled.Compiled.{Compiled}
pub use Rattle.jsonpath_c.specs.declared.limits.Limits.{Limits}
pub use Rattle.jsonpath_lines.proofs.Pieces.{lines_pushed}
pub use Rattle.jsonpath_lines.proofs.Words.{AreEnough}
pub use Rattle.jsonpath_program.specs.declared.report.DocumentError.TheVariants.{NotJson}
pub use Rattle.jsonpath_program.specs.declared.report.ReportError.TheVariants.{Document, Path, Query}
pub use Rattle.nullable_box.proofs.Moved.{Owner, moved, nullable_box, nullable_ref}
pub use Rattle.nullable_box.proofs.Sent.{held_keyless, lent_keyless}
pub use Rattle.nullable_box.specs.Held.{held}
pub use Rattle.nullable_box.specs.Shown.{lent}
pub use Rattle.serde_json_path_core.specs.Walks.{steps_of}
pub use Rattle.serde_json_path_nodes.proofs.Words.{Bool, Err, IfOk, List, Ok, Result, Some, [], ap, append-nil, append_assoc, arith, drop, drop_more, false, inl, inr, length, length-append, length_push, map, map-append, refl, rules, string_bytes, subst, sym, take, take-append-drop, true, ℕ, ◌++◌, ◌+◌, ◌<◌, ◌∙◌, ◌∷◌, ◌≡◌, ◌≤◌, ◌⊎◌}
pub use Rattle.serde_json_path_reach.specs.Readers.{KeepsPlacesFor}
pub use Rattle.serde_json_path_syntax.proofs.Words.{Bor, Pattern, QueryError}
pub use Rattle.std.proofs.lemmas.Grind.{common_steps}
pub use Rattle.std.proofs.lemmas.Result.{IfOk-weaker}
pub use Rattle.std.specs.Prelude.{IfErr, IfSome}
pub use Rattle.std.specs.Result.{result_ok}
