use Rattle.jpq_options.proofs.Words.{arith, rules, tests, YieldsList-from_map_by, YieldsList-at, map_from_collect, YieldsList-from_str_split, path_in_line}
use Rattle.jpq_options.proofs.paths.path_lines.Goals as goal

pub returns : goal.returns
returns c = map_from_collect _ c.collect.ensures.ran
    (YieldsList-from_map_by _ (λ s. s.now) path_in_line
    (YieldsList-at c.map.ensures.source (YieldsList-from_str_split 10 c.args.text.now (omega arith) c.split.ensures.text c.split.ensures.has_more c.split.ensures.pattern))
    c.map.ensures.closure (λ x r q k. search (rules, tests)))
