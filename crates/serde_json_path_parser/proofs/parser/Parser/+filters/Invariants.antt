use Rattle.serde_json_path_parser.proofs.Words.{calls_in_and, calls_in_basic, parts_in, LogicalAnd, Basic, IsPart, an_and, a_basic, begins, opens, signatures, at_level, read_and_from, read_or_from, past_blanks, byte_count, opens_next, read_selectors, read_segments, left, Moves, kind_view, read_arguments, read_some_arguments, ◌≡◌, ◌+◌, ◌*◌, ℕ, List, [], false, length, map}
use Rattle.serde_json_path_parser.specs.Inside.Giving.{read_filter}
use Rattle.serde_json_path_parser.proofs.Steps.{LeadsTo, SoFar, segment_row, selector_row, or_row, and_row}
use Rattle.serde_json_path_parser.proofs.parser.Parser.+filters.Given as goal

-- ---- one level is above all that stands in it; at a level, what stands in another piece is below it

abbrev pub decreases-parse_inside : goal.decreases-parse_inside
decreases-parse_inside g l = 512 * l.self.now.depth

abbrev pub decreases-parse_paren : goal.decreases-parse_paren
decreases-parse_paren g l = 512 * l.self.now.depth + 16

abbrev pub decreases-parse_call : goal.decreases-parse_call
decreases-parse_call g l = 512 * l.self.now.depth + 16

abbrev pub decreases-parse_selector : goal.decreases-parse_selector
decreases-parse_selector g l = 512 * l.self.now.depth + 16

abbrev pub decreases-parse_named : goal.decreases-parse_named
decreases-parse_named g l = 512 * l.self.now.depth + 32

abbrev pub decreases-parse_selectors : goal.decreases-parse_selectors
decreases-parse_selectors g l = 512 * l.self.now.depth + 32

abbrev pub decreases-parse_bracket : goal.decreases-parse_bracket
decreases-parse_bracket g l = 512 * l.self.now.depth + 48

abbrev pub decreases-parse_segment : goal.decreases-parse_segment
decreases-parse_segment g l = 512 * l.self.now.depth + 64

abbrev pub decreases-parse_segments : goal.decreases-parse_segments
decreases-parse_segments g l = 512 * l.self.now.depth + 80

abbrev pub decreases-parse_query : goal.decreases-parse_query
decreases-parse_query g l = 512 * l.self.now.depth + 96

abbrev pub decreases-parse_negated : goal.decreases-parse_negated
decreases-parse_negated g l = 512 * l.self.now.depth + 120

abbrev pub decreases-parse_operand : goal.decreases-parse_operand
decreases-parse_operand g l = 512 * l.self.now.depth + 112

abbrev pub decreases-parse_basic_from : goal.decreases-parse_basic_from
decreases-parse_basic_from g l = 512 * l.self.now.depth + 128

abbrev pub decreases-parse_basic : goal.decreases-parse_basic
decreases-parse_basic g l = 512 * l.self.now.depth + 144

abbrev pub decreases-parse_and_from : goal.decreases-parse_and_from
decreases-parse_and_from g l = 512 * l.self.now.depth + 160

abbrev pub decreases-parse_logical_and : goal.decreases-parse_logical_and
decreases-parse_logical_and g l = 512 * l.self.now.depth + 176

abbrev pub decreases-parse_or_from : goal.decreases-parse_or_from
decreases-parse_or_from g l = 512 * l.self.now.depth + 192

abbrev pub decreases-parse_logical_or : goal.decreases-parse_logical_or
decreases-parse_logical_or g l = 512 * l.self.now.depth + 208

abbrev pub decreases-parse_argument : goal.decreases-parse_argument
decreases-parse_argument g l = 512 * l.self.now.depth + 224

abbrev pub decreases-parse_arguments : goal.decreases-parse_arguments
decreases-parse_arguments g l = 512 * l.self.now.depth + 240

-- ---- loops

abbrev pub invariant-parse_segments-segments : goal.invariant-parse_segments-segments
invariant-parse_segments-segments g l = record {
  moves : Moves l.fn.reader l.reader;
  none : opens_next (left l.fn.reader) ≡ false → begins opens (left l.reader) ≡ false;
  so_far : (rest : List ℕ) × (l.rest ≡ byte_count rest) × (left l.reader ≡ past_blanks rest)
      × SoFar (at_level g.F.Functions.set l.self segment_row l.context) (signatures g.F.Functions.set l.self) l.fn.builder l.builder [] (parts_in l.parts) rest
      (read_segments (read_filter g.F.Functions.set l.self) l.context (left l.fn.reader));
}

abbrev pub decreases-parse_segments-segments : goal.decreases-parse_segments-segments
decreases-parse_segments-segments g l = length (left l.reader)

abbrev pub invariant-parse_selectors-selectors : goal.invariant-parse_selectors-selectors
invariant-parse_selectors-selectors g l = record {
  moves : Moves l.fn.reader l.reader;
  so_far : SoFar (at_level g.F.Functions.set l.self selector_row) (signatures g.F.Functions.set l.self) l.fn.builder l.builder [] (parts_in l.parts) (left l.reader)
      (read_selectors (read_filter g.F.Functions.set l.self) (left l.fn.reader));
}

abbrev pub decreases-parse_selectors-selectors : goal.decreases-parse_selectors-selectors
decreases-parse_selectors-selectors g l = length (left l.reader)

abbrev pub invariant-parse_or_from-parts : goal.invariant-parse_or_from-parts
invariant-parse_or_from-parts g l = record {
  moves : Moves l.fn.reader l.reader;
  so_far : (a : LogicalAnd) → IsPart l.fn.builder l.fn.first (an_and a)
      → SoFar (at_level g.F.Functions.set l.self or_row) (signatures g.F.Functions.set l.self) l.fn.builder l.builder (calls_in_and a) (parts_in l.parts) (left l.reader)
      (at_level g.F.Functions.set l.self read_or_from a (left l.fn.reader));
}

abbrev pub decreases-parse_or_from-parts : goal.decreases-parse_or_from-parts
decreases-parse_or_from-parts g l = length (left l.reader)

abbrev pub invariant-parse_and_from-parts : goal.invariant-parse_and_from-parts
invariant-parse_and_from-parts g l = record {
  moves : Moves l.fn.reader l.reader;
  so_far : (b : Basic) → IsPart l.fn.builder l.fn.first (a_basic b)
      → SoFar (at_level g.F.Functions.set l.self and_row) (signatures g.F.Functions.set l.self) l.fn.builder l.builder (calls_in_basic b) (parts_in l.parts) (left l.reader)
      (at_level g.F.Functions.set l.self read_and_from b (left l.fn.reader));
}

abbrev pub decreases-parse_and_from-parts : goal.decreases-parse_and_from-parts
decreases-parse_and_from-parts g l = length (left l.reader)

abbrev pub invariant-parse_arguments-arguments : goal.invariant-parse_arguments-arguments
invariant-parse_arguments-arguments g l = record {
  moves : Moves l.fn.reader l.reader;
  so_far : LeadsTo g.S.PathSource (signatures g.F.Functions.set l.self) l.fn.builder l.builder l.fn.parts.items l.parts.items
      (at_level g.F.Functions.set l.self read_some_arguments l.place (map kind_view l.types) (left l.reader)) (at_level g.F.Functions.set l.self read_arguments l.place (map kind_view l.fn.types) (left l.fn.reader));
}

abbrev pub decreases-parse_arguments-arguments : goal.decreases-parse_arguments-arguments
decreases-parse_arguments-arguments g l = length l.types
