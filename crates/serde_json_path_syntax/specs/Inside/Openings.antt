-- What is printed before a selector in brackets.
use Rattle.std.specs.Prelude.{ℕ, List, [], ◌++◌, codes, option_map}
use Rattle.serde_json_path_syntax.specs.Flat.{query_kind_view, segment_kind_view}
use Rattle.serde_json_path_syntax.specs.Text.{bracket_dots_of, sign_text}
use Rattle.serde_json_path_syntax.specs.declared.print.openings.Opening.{Opening}
use Rattle.serde_json_path_syntax.specs.declared.print.openings.Opening.TheVariants.{Bracket, Comma, Nothing}

-- a bracket after the sign and the dots before it, or a comma, or nothing
abbrev pub opening_text : Opening → List ℕ
opening_text (Bracket start kind) = sign_text (option_map query_kind_view start) ++ (bracket_dots_of (segment_kind_view kind) ++ codes "[")
opening_text Comma = codes ", "
opening_text Nothing = []
