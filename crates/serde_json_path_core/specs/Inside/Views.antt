-- Children, cursors, slice positions and frames as the definitions see them.
use Rattle.std.specs.Prelude.{List, [], ◌∷◌, drop, Option, Some, None, option_map, option_to_list, ℕ, map}
use Rattle.serde_json_path_core.specs.Imports.{Data, view, items_view, members_view, Step, step_view, Value}
use Rattle.serde_json_path_core.specs.declared.child.Child.{Child}
use Rattle.serde_json_path_core.specs.Inside.Computed as computed
use Rattle.serde_json_path_core.specs.declared.evaluation.slice_positions.SlicePositions.{SlicePositions}
use Rattle.serde_json_path_core.specs.Inside.Computed.{items_from, members_all}
use Rattle.serde_json_path_core.specs.declared.evaluation.cursor.Cursor.{Cursor}
use Rattle.serde_json_path_core.specs.declared.evaluation.cursor.MembersLeft.{MembersLeft}
use Rattle.serde_json_path_core.specs.declared.evaluation.cursor.Cursor.TheVariants.{Items, Members, One, Slice}
use Rattle.serde_json_path_core.specs.Inside.Rest.{Frame}
use Rattle.serde_json_path_core.specs.declared.evaluation.frame.Frame as declared
use Rattle.serde_json_path_core.specs.declared.evaluation.frame.Arrival.{Arrival}

-- ---- the program's values as the definitions see them

abbrev pub child_view : Child → Step × Data
child_view c = (step_view c.step, view c.value.now)

-- ---- slice positions as the definitions see them, and the items at those that are left

abbrev pub positions_view : SlicePositions → computed.SlicePositions
positions_view c = record { upwards = c.upwards; first = c.next; stride = c.stride; count = c.left }

-- the items at the positions that are left
abbrev pub positions_left : SlicePositions → List Value → List (Step × Data)
positions_left c items = computed.at_positions (positions_view c) (items_view items)

-- ---- the children that a cursor has not given yet

-- the members from the next one on; without a next one there are no more
abbrev pub members_from : Option (Step × Data) → List (Step × Data) → List (Step × Data)
members_from None after = []
members_from (Some c) after = c ∷ after

abbrev pub members_left : MembersLeft → List (Step × Data)
members_left members = members_from (option_map child_view members.next) (members_all (members_view members.after))

-- the children that are left, in order
abbrev pub cursor_left : Cursor → List (Step × Data)
cursor_left (Items items next) = items_from next (items_view (drop next items.now))
cursor_left (Members members) = members_left members
cursor_left (One child) = option_to_list (option_map child_view child)
cursor_left (Slice items positions) = positions_left positions items.now

-- ---- the frames of a walk as the definitions see them

abbrev pub frame_view : declared.Frame → Frame
frame_view p = record { step = option_map step_view p.step; value = view p.value.now; segment = p.segment; selector = p.selector; left = cursor_left p.cursor }

abbrev pub frames_view : List declared.Frame → List Frame
frames_view frames = map frame_view frames

abbrev pub arrival_view : Arrival → ℕ × (Step × Data)
arrival_view arrival = (arrival.segment, child_view arrival.child)
