-- What handles hold may go to another thread, and be read in several.
use denote.Param.Send.{IsSend, IsSync, sendable}
use Rattle.std.proofs.Crossing as common
use Rattle.std.proofs.MapsCrossing as maps
use Rattle.serde_json.proofs.value.Value.TheLaws.TheKnot.{send-Value, sync-Value}
use Rattle.serde_json_path_functions.proofs.numbers.Numbers.TheSendSync as numbers
use Rattle.serde_json_path_functions.proofs.signature.Signature.TheSendSync as signature
use Rattle.serde_json_path_syntax.proofs.node.Basic.TheSendSync as basic
use Rattle.serde_json_path_syntax.proofs.node.Part.TheSendSync as part
use Rattle.serde_json_path_syntax.proofs.node.QueryKind.TheSendSync as query_kind
use Rattle.serde_json_path_syntax.proofs.node.Segment.TheSendSync as segment
use Rattle.serde_json_path_syntax.proofs.node.SegmentKind.TheSendSync as segment_kind
use Rattle.serde_json_path_syntax.proofs.node.Selector.TheSendSync as selector
use Rattle.serde_json_path_syntax.proofs.parts.Parts.TheSendSync as parts
use Rattle.serde_json_path_syntax.specs.contracts.literal.LiteralValue as literal_value
use Rattle.serde_json_path_syntax.specs.contracts.node.Operand as operand
use Rattle.serde_json_path_syntax.specs.contracts.literal.HeldDecimal as held_decimal
use Rattle.serde_json_path_syntax.specs.contracts.node.Node as node
use Rattle.serde_json_path_syntax.specs.contracts.arena.Arena as arena
use Rattle.serde_json_path_syntax.specs.contracts.checked.Checked as checked
use Rattle.serde_json_path.specs.contracts.path.JsonPath as path
use Rattle.jsonpath_c.specs.contracts.compiled.Compiled as compiled
use Rattle.jsonpath_c.specs.contracts.handle.document.Document as document

held_decimal_send : IsSend held_decimal.the_row
held_decimal_send = search (sendable, common.crosses, maps.crosses, send-Value) depth 40 fits 100000

literal_send : IsSend (literal_value.the_field).row
literal_send = search (sendable, common.crosses, maps.crosses, send-Value, held_decimal_send) depth 40 fits 100000

operand_send : IsSend (operand.the_field).row
operand_send = search (sendable, common.crosses, maps.crosses, literal_send, part.the_field_send) depth 40 fits 100000

node_send : IsSend node.the_row
node_send = search (sendable, common.crosses, maps.crosses, operand_send, part.the_send, signature.the_field_send, basic.the_field_send, query_kind.the_field_send, segment.the_field_send, segment_kind.the_field_send, selector.the_field_send, parts.the_field_send) depth 40 fits 100000

arena_send : IsSend (arena.the_field).row
arena_send = search (sendable, common.crosses, maps.crosses, node_send) depth 40 fits 100000

checked_send : IsSend (checked.the_field).row
checked_send = search (sendable, common.crosses, maps.crosses, arena_send, part.the_send, numbers.the_field_send) depth 40 fits 100000

path_send : IsSend path.the_row
path_send = search (sendable, common.crosses, maps.crosses, checked_send) depth 40 fits 100000

held_decimal_sync : IsSync held_decimal.the_row
held_decimal_sync = search (sendable, common.crosses, maps.crosses, sync-Value) depth 40 fits 100000

literal_sync : IsSync (literal_value.the_field).row
literal_sync = search (sendable, common.crosses, maps.crosses, sync-Value, held_decimal_sync) depth 40 fits 100000

operand_sync : IsSync (operand.the_field).row
operand_sync = search (sendable, common.crosses, maps.crosses, literal_sync, part.the_field_sync) depth 40 fits 100000

node_sync : IsSync node.the_row
node_sync = search (sendable, common.crosses, maps.crosses, operand_sync, part.the_sync, signature.the_field_sync, basic.the_field_sync, query_kind.the_field_sync, segment.the_field_sync, segment_kind.the_field_sync, selector.the_field_sync, parts.the_field_sync) depth 40 fits 100000

arena_sync : IsSync (arena.the_field).row
arena_sync = search (sendable, common.crosses, maps.crosses, node_sync) depth 40 fits 100000

checked_sync : IsSync (checked.the_field).row
checked_sync = search (sendable, common.crosses, maps.crosses, arena_sync, part.the_sync, numbers.the_field_sync) depth 40 fits 100000

path_sync : IsSync path.the_row
path_sync = search (sendable, common.crosses, maps.crosses, checked_sync) depth 40 fits 100000

pub compiled_send : IsSend compiled.the_row
compiled_send = search (sendable, common.crosses, path_send, path_sync) depth 40 fits 100000

pub document_send : IsSend document.the_row
document_send = search (sendable, common.crosses, maps.crosses, send-Value, sync-Value) depth 40 fits 100000

pub compiled_sync : IsSync compiled.the_row
compiled_sync = search (sendable, common.crosses, path_send, path_sync) depth 40 fits 100000

pub document_sync : IsSync document.the_row
document_sync = search (sendable, common.crosses, maps.crosses, send-Value, sync-Value) depth 40 fits 100000
