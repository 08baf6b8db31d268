use Rattle.jpq_program.proofs.Words.{◌∙◌, IfOk-weaker, Output, look_with, IfSome, List, Query, AskedPath, ap, map, refl, string_bytes, subst, Keeps, Streams, shows_places}
use Rattle.serde_json_path_reach.specs.Alike.{trees_of}
use Rattle.jpq_program.proofs.Asked.{begun_for, nothing_for, opened_for, reads_documents, sent_for}
use Rattle.jpq_program.proofs.run.answer_paths.Goals as goal

pub returns-clause-answered : goal.returns-clause-answered
returns-clause-answered g c = IfOk-weaker c.answer_documents.result _ _ (λ next answered texts fresh empty known.
    let told = c.dress_of.ensures.told in
    let read = subst (λ (queries : List Query). IfSome c.reader_for.result (λ reader. Keeps reader (shows_places c.output_of-output.result.form) queries)) (ap trees_of c.as_slice.ensures.value ∙ c.in_ok-trees.ensures) c.reader_for.ensures in
    let reads = reads_documents _ c.args.options.now refl c.output_of-output.ensures read in
    let look = ap (λ (o : Output). look_with o c.args.options.now.most_of_all c.args.options.now.total c.in_ok-dress.dress) c.output_of-output.ensures ∙ c.in_ok-dress.ensures.look in
    sent_for g.W.Write.contents c.args.options.now c.args.colours next c.args.paths.now (look_with c.output_of-output.result c.args.options.now.most_of_all c.args.options.now.total c.in_ok-dress.dress) c.heads_of.result (g.I.Inputs.bytes_of c.args.inputs.now) c.args.streams.now _ c.answer_documents.new.streams
    look c.heads_of.ensures texts (ap (λ (s : Streams g.row.W.Denot g.row.E.Denot). s.out) told) (ap (λ (s : Streams g.row.W.Denot g.row.E.Denot). s.pending) told)
    (ap (λ (s : Streams g.row.W.Denot g.row.E.Denot). s.outcome) told) (ap (λ (s : Streams g.row.W.Denot g.row.E.Denot). s.total) told) (λ silent. ap (λ (s : Streams g.row.W.Denot g.row.E.Denot). s.err) (c.dress_of.ensures.quiet silent)) (answered reads (ap (λ (s : Streams g.row.W.Denot g.row.E.Denot). s.total) told ∙ fresh) (ap (λ (s : Streams g.row.W.Denot g.row.E.Denot). string_bytes s.pending) told ∙ empty) known)) c.answer_documents.ensures.answered

pub returns-clause-begun : goal.returns-clause-begun
returns-clause-begun g c = λ texts fresh empty known.
    let told = c.dress_of.ensures.told in
    let read = subst (λ (queries : List Query). IfSome c.reader_for.result (λ reader. Keeps reader (shows_places c.output_of-output.result.form) queries)) (ap trees_of c.as_slice.ensures.value ∙ c.in_ok-trees.ensures) c.reader_for.ensures in
    let reads = reads_documents _ c.args.options.now refl c.output_of-output.ensures read in
    let look = ap (λ (o : Output). look_with o c.args.options.now.most_of_all c.args.options.now.total c.in_ok-dress.dress) c.output_of-output.ensures ∙ c.in_ok-dress.ensures.look in
    begun_for g.W.Write.contents c.args.options.now c.args.colours c.args.paths.now (look_with c.output_of-output.result c.args.options.now.most_of_all c.args.options.now.total c.in_ok-dress.dress) c.heads_of.result (g.I.Inputs.bytes_of c.args.inputs.now) c.args.streams.now c.dress_of.new.streams c.answer_documents.new.streams
    look c.heads_of.ensures texts (ap (λ (s : Streams g.row.W.Denot g.row.E.Denot). s.out) told) (ap (λ (s : Streams g.row.W.Denot g.row.E.Denot). s.pending) told)
    (c.answer_documents.ensures.begun reads (ap (λ (s : Streams g.row.W.Denot g.row.E.Denot). s.total) told ∙ fresh) (ap (λ (s : Streams g.row.W.Denot g.row.E.Denot). string_bytes s.pending) told ∙ empty) known)

pub returns-in_err-trees-clause-begun : goal.returns-in_err-trees-clause-begun
returns-in_err-trees-clause-begun g c = λ texts fresh empty known.
    nothing_for g.W.Write.contents c.args.options.now c.args.colours (map (λ (path : AskedPath). path.path) c.args.paths.now) (g.I.Inputs.bytes_of c.args.inputs.now) c.args.streams.now c.args.streams.now known refl

pub returns-in_err-dress-clause-begun : goal.returns-in_err-dress-clause-begun
returns-in_err-dress-clause-begun g c = λ texts fresh empty known.
    nothing_for g.W.Write.contents c.args.options.now c.args.colours (map (λ (path : AskedPath). path.path) c.args.paths.now) (g.I.Inputs.bytes_of c.args.inputs.now) c.args.streams.now c.dress_of.new.streams known
    (ap (λ (s : Streams g.row.W.Denot g.row.E.Denot). s.out) c.dress_of.ensures.told)

pub returns-clause-wanted : goal.returns-clause-wanted
returns-clause-wanted g c = IfOk-weaker c.answer_documents.result _ _ (λ next wanted whole right fresh empty known.
    let told = c.dress_of.ensures.told in
    let read = subst (λ (queries : List Query). IfSome c.reader_for.result (λ reader. Keeps reader (shows_places c.output_of-output.result.form) queries)) (ap trees_of c.as_slice.ensures.value ∙ c.in_ok-trees.ensures) c.reader_for.ensures in
    let reads = reads_documents _ c.args.options.now refl c.output_of-output.ensures read in
    let look = ap (λ (o : Output). look_with o c.args.options.now.most_of_all c.args.options.now.total c.in_ok-dress.dress) c.output_of-output.ensures ∙ c.in_ok-dress.ensures.look in
    opened_for c.args.options.now c.args.colours c.args.paths.now (look_with c.output_of-output.result c.args.options.now.most_of_all c.args.options.now.total c.in_ok-dress.dress) c.heads_of.result (g.I.Inputs.bytes_of c.args.inputs.now) (g.I.Inputs.opened c.args.inputs.now) (g.I.Inputs.opened c.answer_documents.new.inputs)
    look c.heads_of.ensures (wanted whole right reads (ap (λ (s : Streams g.row.W.Denot g.row.E.Denot). s.total) told ∙ fresh) (ap (λ (s : Streams g.row.W.Denot g.row.E.Denot). string_bytes s.pending) told ∙ empty) known)) c.answer_documents.ensures.wanted
