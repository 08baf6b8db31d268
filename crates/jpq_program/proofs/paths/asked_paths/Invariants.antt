use Rattle.jpq_program.proofs.Words.{◌≡◌, ◌++◌, Bor, List, ℕ, [], false, AreKnown, AreAskedBy, Opens, Reads, Tells, known_bytes, map, reading_by, take, texts_in_file}
use Rattle.std.specs.List.{flat_map}
use Rattle.jpq_program.proofs.paths.asked_paths.Given as goal

abbrev pub invariant-loop-file : goal.invariant-loop-file
invariant-loop-file g l = record {
  same : (name : List ℕ) → g.I.Inputs.bytes_of l.inputs name ≡ g.I.Inputs.bytes_of l.initial.inputs name;
  opens : Opens (g.I.Inputs.opened l.initial.inputs) (g.I.Inputs.opened l.inputs) (map (λ (file : Bor (List ℕ)). file.now) (take l.file-index l.file-items));
  reads : Reads l.initial.reading l.reading;
  tells : Tells l.initial.streams l.streams;
  right : l.streams.outcome.refused ≡ false → l.streams ≡ l.initial.streams;
  unopened : l.options.paths_files.items ≡ [] → l.inputs ≡ l.initial.inputs;
  are : AreKnown (g.I.Inputs.bytes_of l.initial.inputs) (map (λ (file : Bor (List ℕ)). file.now) l.file-items) → l.streams.outcome.refused ≡ false
      → AreAskedBy (reading_by l.initial.reading) (map (λ (text : Bor (List ℕ)). text.now) l.options.paths.items ++ flat_map (λ name. texts_in_file (known_bytes (g.I.Inputs.bytes_of l.initial.inputs) name)) (map (λ (file : Bor (List ℕ)). file.now) (take l.file-index l.file-items))) l.paths.items;
}
