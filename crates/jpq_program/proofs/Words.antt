-- The words of definitions and lemmas that proofs cite, from one place.
pub use Rattle.jpq_program.specs.Answers.{AreAnswersInPart, AreAnswersOn, AreEach, AreShown, IsAnswer, IsAnswerInPart, IsAnswerOn, IsArrayInPart, IsArrayOf, IsShownInPart, IsShownOn, array_end, array_text, has_nodes, look_after, with_most}
pub use Rattle.jpq_program.specs.Rows.{AreCells, IsCell, IsCellInPart, IsCellOf, IsCellOn, IsRowInPart, IsRowOn, cell_text, comma_rows, first_cells, header_cells, in_cell, row_line, row_text}
pub use Rattle.jpq_program.specs.Looks.{ArePieces, IsLook, IsObject, IsPiece, IsSeenIn, Look, dressed, escaped, further_in, has_escapes, in_ascii, indented, is_array, led_by, member_json, object_text, unit_escape}
pub use Rattle.jpq_program.specs.Colours.{colours_for, field_at, fields_in, is_in_fields, names_colours, parameters_in}
pub use Rattle.jsonpath_lines.specs.Coloured.{IsColoured, parameters_of, usual}
pub use Rattle.jpq_program.specs.declared.colours.Colours.{Colours}
pub use Rattle.jpq_program.specs.declared.dress.Dress.{Dress}
pub use Rattle.jpq_program.specs.declared.dress.Place.{Place}
pub use Rattle.jpq_program.specs.declared.dress.Place.TheVariants.{AfterSpace, Start, Within}
pub use Rattle.jpq_program.specs.Heads.{head_in, head_text}
pub use Rattle.jpq_program.specs.Inputs.{AreInputsShown, AreKnown, Opens, OpensFirst, IsInputShown, IsLineShown, IsNamedShown, IsUntil, Shown, has_enough, lines_of, is_blank, with_byte, without_mark}
pub use Rattle.jpq_program.specs.declared.asked_path.AskedPath.{AskedPath}
pub use Rattle.jpq_program.specs.Inside.{Adds, reading_by, value_pairs, AreAskedBy, IsAskedBy, AnswersAs, AreBetween, IsAside, SendsAll, SendsWanted, header_by, texts_asked, total_by, wanted_by, wanted_in_part_by, Answered, AnswersBy, AnswersEach, AnswersPath, AnswersAll, AnswersRow, AreSelected, AreShownAs, Begins, BeginsFirst, BeginsNodes, OnlyPends, OnlyRefuses, PendsNode, SendsBy, SendsFor, SendsInput, SendsInputs, SendsLine, TookFirst, shown_in_part_by, Counts, FilledNodes, Finds, IsAsked, IsFirstOf, asked_look, cell_look, each_by, each_in_part_by, paths_in, row_by, row_in_part_by, IsFailure, IsReadIn, ReadsForPaths, KeepsRest, OnlyNotes, OnlyTells, OnlyWrites, Reads, ReadsFurther, Sends, ShowsAs, Tells, TookNodes, Writes, WritesNode, WritesNodes, all_by, all_in_part_by, is_after, has_counts, head_by, heads_in, left_from, look_of, colours_by, look_with, unit_by, shown_by, shows_places, status_after, status_of, told_after, AnswersRun, Ends, IfWhole, SendsDocument, SendsUntil, is_done, is_quiet, is_whole}
pub use Rattle.jpq_program.specs.Run.{AreAllInPart, AreAllShown, AreInputsFor, ArePaths, IsBetween, header_for, total_for, IsChecked, canonical_lines, ComesOf, IsAnswered, IsAnsweredInPart, IsCheckedInPart, IsShownInPartFor, IsPathOf, OpensInOrder, IsPlainRun, IsPrinted, IsShownFor, IsStatusOf, LacksMemory, cells_for, form_in, has_text, head_for, is_each, known_bytes, look_in, looked_at_in, names_in, opened_in, output_in, path_files_in, path_texts, rule_in, texts_in_file, unit_in, IsFound, IsQuietRun, TellsNothing, IsBound, Reading, reading_in}
pub use Rattle.jpq_options.specs.Options.{is_table}
pub use Rattle.jpq_options.specs.Paths.{path_lines}
pub use Rattle.jpq_options.specs.declared.options.Shown.{Shown as OptionShown}
pub use Rattle.jpq_options.specs.declared.options.Shown.TheVariants.{Csv, Nodes, Tsv}
pub use Rattle.jpq_program.specs.declared.answering.Answering.{Answering}
pub use Rattle.jpq_program.specs.declared.source.Heads.{Heads}
pub use Rattle.serde_json_path_reach.specs.Readers.{Keeps}
pub use Rattle.jpq_options.specs.declared.options.Options.{Options}
pub use Rattle.jpq_program.specs.declared.documents.Documents.{Documents}
pub use Rattle.jpq_program.specs.declared.paths.PathReading.{PathReading}
pub use Rattle.jpq_options.specs.declared.options.Request.TheVariants.{Run}
pub use Rattle.jpq_program.specs.declared.streams.Outcome.{Outcome}
pub use Rattle.jpq_program.specs.declared.streams.Stop.{Stop}
pub use Rattle.jpq_program.specs.declared.streams.Next.{Next}
pub use Rattle.jpq_program.specs.declared.streams.Next.TheVariants.{Enough, Found, More}
pub use Rattle.jpq_program.specs.declared.streams.Stop.TheVariants.{Memory, OutputFailed, ReaderGone, Refused, WrongUse}
pub use Rattle.jsonpath_lines.specs.Sent.{AppendsBeginning}
pub use Rattle.jpq_program.specs.declared.showing.Showing.{Showing}
pub use Rattle.jpq_program.specs.declared.streams.Streams.{Streams}
pub use Rattle.jpq_program.specs.declared.written.Written.{Written}
pub use Rattle.jsonpath_lines.proofs.Chosen.{IsWithin, all_below, reached, within_further}
pub use Rattle.jsonpath_lines.specs.Distinct.{AreEnough}
pub use Rattle.serde_json_path_syntax.proofs.Words.{length-map, length-take-le, take_all, true≢false, map-append, map_push, take-append-le, take_more}
pub use Rattle.jsonpath_lines.specs.Inside.{once}
pub use Rattle.std.specs.Prelude.{Err, IfErr, OnOk, Result, String, Vec, codes, ◌≤◌}
pub use Rattle.std.specs.declared.alloc.Global.{Global}
pub use Rattle.serde_json_path_nodes.proofs.Words.{IfOk, IfOk-weaker, Ok, cases_Bool, first_places}
pub use Rattle.serde_json_path_core.specs.Walks.{document_of, query_of, rest, set_of, steps_of}
pub use Rattle.jsonpath_lines.proofs.Words.{Appends-trans, Bool, IsLine, IsLineOfEach, List, Located, None, Option, Some, [], ap, append-nil, append_assoc, arith, common_steps, false, is_reached, length, length-append, located, nat_tests, refl, string_bytes, subst, sym, true, up_to, ℕ, ◌++◌, ◌+◌, ◌∙◌, ◌∷◌, ◌≡◌}
pub use Rattle.jsonpath_lines.specs.Output.{AreLines, AreLinesIn, IsCount, IsCountIn, IsText, chosen, end_text}
pub use Rattle.jsonpath_lines.specs.declared.forms.Layout.{Layout}
pub use Rattle.jsonpath_lines.specs.declared.forms.Layout.TheVariants.{Compact, Pretty}
pub use Rattle.jsonpath_lines.specs.declared.forms.LineEnd.{LineEnd}
pub use Rattle.jsonpath_lines.specs.declared.forms.LineEnd.TheVariants.{LineFeed, Nul}
pub use Rattle.jsonpath_lines.specs.declared.forms.Form.{Form}
pub use Rattle.jsonpath_lines.specs.declared.forms.Form.TheVariants.{Count, Json, Location, LocationAndValue, Nothing, Pointer, Raw, Value}
pub use Rattle.jsonpath_lines.specs.declared.forms.Output.{Output}
pub use Rattle.serde_json.specs.Data.{Data}
pub use Rattle.serde_json.specs.View.{view}
pub use Rattle.serde_json_path.specs.Paths.{path_tree, with_rule_of}
pub use Rattle.serde_json_path_syntax.specs.Text.{query_text}
pub use Rattle.serde_json_path.specs.declared.path.JsonPath.{JsonPath}
pub use Rattle.serde_json_path_core.specs.Selects.{Selects}
pub use Rattle.serde_json_path_functions.specs.Patterns.{builtin_functions}
pub use Rattle.serde_json_path_syntax.proofs.Words.{Bor}
pub use Rattle.std.proofs.Common.{drop-cons, get_or, inl, inr, rules, suc, zero, take-append-drop, ◌<◌, ◌⊎◌}
pub use Rattle.std.specs.Io.KnownBytes.{Appends}
pub use Rattle.std.specs.Io.BufRead.{drop_through, strip_last, take_through}
pub use Rattle.std.specs.List.{AllZip, flat_map, list_all, take-map}
pub use Rattle.std.proofs.lemmas.Iterator.Consumers.{nth_from_yields_List}
pub use Rattle.std.proofs.lemmas.Iterator.Splits.{YieldsList-from_str_split}
pub use Rattle.std.proofs.lemmas.List.{append_cancel_right, get_or-map}
pub use Rattle.std.proofs.lemmas.Grind.{flat_map-append}
pub use Rattle.std.proofs.lemmas.Result.{IfErr-weaker}
pub use Rattle.serde_json_path_functions.specs.Functions.{Numbers}
pub use Rattle.serde_json_path_functions.specs.Terms.{numbers_view}
pub use Rattle.std.specs.Fmt.{decimal}
pub use Rattle.std.specs.Char.{encode_utf8}
pub use Rattle.std.specs.Str.{IsUtf8, chars}
pub use Rattle.std.specs.Str.Iter.{chars_rest}
pub use Rattle.std.proofs.lemmas.Str.{IsUtf8-past_char, chars-nil, chars_past_char}
pub use Rattle.serde_json_path_syntax.proofs.Words.{nil_from_length}
pub use Rattle.serde_json_path_syntax.specs.Lists.{IsIn}
pub use Rattle.serde_json_path_syntax.specs.Tree.{Query}
pub use Rattle.serde_json_path_nodes.specs.Location.{Step}
pub use Rattle.serde_json_path_nodes.specs.Lists.{first_places_after, is_among}
pub use Rattle.serde_json_path_nodes.specs.Text.{normal, pointer}
pub use Rattle.serde_json_path_functions.specs.Functions.{FunctionSet}
pub use Rattle.std.specs.Prelude.{◌-◌, option_map, replicate, slice_get, unwrap_or, IfSome, MatchBool, MatchOption, drop, is_some, map, nat_eq, nat_lt, not, take, if◌then◌else◌, ◌&&◌, ◌==◌, ◌||◌}
