-- What a sink makes of a node.
use Rattle.serde_json_path_core.specs.declared.evaluation.sink.Taken.{Taken}
use Rattle.serde_json_path_core.specs.declared.evaluation.sink.Taken.TheVariants.{More, Enough}

-- one fact where the sink wants more, another where it has enough
abbrev pub MatchTaken : Taken → Type 0 → Type 0 → Type 0
MatchTaken (More steps) wants_more has_enough = wants_more
MatchTaken Enough wants_more has_enough = has_enough
