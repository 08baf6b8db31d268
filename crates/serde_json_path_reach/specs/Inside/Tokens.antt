-- What is read of tokens: the JSON that they are, as the data that `serde_json` makes of it.
use Rattle.std.specs.Prelude.{◌≡◌, ℕ, List, Some}
use Rattle.json.specs.Token.{Token}
use Rattle.json.specs.Json.{Json, Parse, items, members}
use Rattle.json.specs.Json as json
use Rattle.serde_json.specs.Data.{Data, Items, Members}
use Rattle.serde_json.specs.Read.{of_json, of_items, of_members}

-- before the rest comes a value
abbrev pub IsRead : Parse Json → List Token → List Token → Data → Type 0
IsRead value tokens rest d = (j : Json) × (value tokens ≡ Some (j, rest)) × (of_json j ≡ Some d)

-- before the rest come the items of an array, and its end
abbrev pub AreItems : Parse Json → ℕ → List Token → List Token → Items → Type 0
AreItems value turns tokens rest ds = (js : json.Items) × (items value turns tokens ≡ Some (js, rest)) × (of_items js ≡ Some ds)

-- before the rest come the members of an object after the old ones, and its end
abbrev pub AreMembers : Parse Json → ℕ → List Token → List Token → Members → Members → Type 0
AreMembers value turns tokens rest old ms = (js : json.Members) × (members value turns tokens ≡ Some (js, rest)) × (of_members js old ≡ Some ms)
