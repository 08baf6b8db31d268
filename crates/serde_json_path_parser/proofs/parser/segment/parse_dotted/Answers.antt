use Rattle.serde_json_path_parser.proofs.Words.{arith, common_steps, string_bytes, segment_kind_view, dot_name, dot_wildcard}
use Rattle.serde_json_path_parser.proofs.Steps.{grows_leaf}
use Rattle.serde_json_path_parser.proofs.parser.segment.parse_dotted.Goals as goal

pub returns-then-sees-clause-gives : goal.returns-then-sees-clause-gives
returns-then-sees-clause-gives g c = λ signature.
    ((segment_kind_view c.args.kind, dot_wildcard), c.in_ok-dot_wildcard.ensures.made, grind (arith, common_steps), grows_leaf c.in_ok-dot_wildcard.ensures.keeps)

pub returns-clause-gives : goal.returns-clause-gives
returns-clause-gives g c = λ signature.
    ((segment_kind_view c.args.kind, dot_name (string_bytes c.in_ok-text.text)), c.in_ok-dot_name.ensures.made, grind (arith, common_steps), grows_leaf c.in_ok-dot_name.ensures.keeps)
