-- A slice selector of the program as the definitions see it.
use Rattle.serde_json_path_syntax.specs.Tree as tree
use Rattle.serde_json_path_syntax.specs.declared.slice.Slice.{Slice}

abbrev pub slice_view : Slice → tree.Slice
slice_view s = record { start = s.start; end = s.end; step = s.step }
