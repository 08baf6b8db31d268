-- What the source of a text in memory tells.
use Rattle.std.specs.Prelude.{◌+◌, ◌-◌, ◌^◌, min, max}
use Rattle.serde_json_path_parser.specs.Source.{Observed}
use Rattle.serde_json_path_parser.specs.declared.source.TextSource.{TextSource}

-- the looks at one byte after the other, and the others
abbrev pub observed_by : TextSource → Observed
observed_by s = record {
  text = s.text.now;
  looks = min (s.other_looks + s.in_order) (2 ^ 128 - 1);
  farthest = max s.in_order s.other_farthest;
}
