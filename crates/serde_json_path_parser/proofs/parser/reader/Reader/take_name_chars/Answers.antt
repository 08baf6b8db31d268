use Rattle.serde_json_path_parser.proofs.Words.{◌∙◌, arith, is_ok, rules, common_steps}
use Rattle.serde_json_path_parser.proofs.Texts.{name_stretched, past_stretched}
use Rattle.serde_json_path_parser.proofs.parser.reader.Reader.take_name_chars.Goals as goal

pub chars-preserved : goal.chars-preserved
chars-preserved g c = record {
  moves = grind (arith, common_steps);
  text = name_stretched _ _ _ _ (is_ok c.take_stretch.result) (search rules) c.take_stretch.ensures.taken ∙ c.chars.invariant.text;
  rest = past_stretched _ _ _ _ _ c.take_stretch.ensures.taken ∙ c.chars.invariant.rest;
}
