use Rattle.jsonpath_program.proofs.Words.{◌≡◌, ◌++◌, codes, refl, subst, rules, decimal, kind_of, position_of, message_of, NoMemory, AppendsBeginning, line_of, Path}
use Rattle.jsonpath_program.proofs.Runs.{no_memory_line}
use Rattle.jsonpath_lines.proofs.Beginnings.{beginning_of_longer}
use Rattle.jsonpath_program.proofs.run.tell_path.Goals as goal

pub returns-then-eq : goal.returns-then-eq
returns-then-eq g c =
    let e = c.args.e.now in
    let kind : kind_of e ≡ NoMemory = search rules in
    subst (AppendsBeginning (g.E.Write.contents c.args.err.now) (g.E.Write.contents c.write_text.new.to)) (no_memory_line e kind (c.requires kind))
    c.write_text.ensures.beginning

pub returns-in-Err : goal.returns-in-Err
returns-in-Err g c =
    let e = c.args.e.now in
    beginning_of_longer _ _ (codes "jsonpath: path: ") (line_of (Path e))
    (codes "at position " ++ (decimal (position_of e) ++ (codes ", " ++ (message_of e ++ codes "\n")))) refl c.write_text-in-Err.ensures.beginning
