use Rattle.jpq_program.proofs.Words.{◌≡◌, map, take, true, builtin_functions, look_of, view, Answered, AreShownAs, AreAnswersInPart, AreAnswersOn, AskedPath, head_by, has_nodes}
use Rattle.jpq_program.proofs.answering.Answering.answer_each.Given as goal

abbrev pub invariant-loop-index : goal.invariant-loop-index
invariant-loop-index g l =
    let paths = map (λ (path : AskedPath). path.path) (take l.index l.self.paths.now) in
    let head = head_by l.self.showing.output l.self.heads l.document.source.name.now l.document.source.line in
    AreShownAs (look_of l.self.showing) l.document.bytes.now (view l.document.value.now) l.self.paths.now → has_nodes l.self.showing.output.form ≡ true
    → Answered l.self.silent g.W.Write.contents (AreAnswersOn builtin_functions paths (look_of l.self.showing) head l.document.bytes.now l.initial.streams.total) (AreAnswersInPart builtin_functions paths (look_of l.self.showing) head l.document.bytes.now l.initial.streams.total)
    l.initial.streams l.streams
