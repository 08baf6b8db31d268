-- Which tokens complete a document, from each place in one.
use Rattle.std.specs.Prelude.{List, [], ◌∷◌, length, Bool, true, false, Option, Some, None, nat_lt, if◌then◌else◌}
use Rattle.std.specs.Option.{is_some}
use Rattle.json.specs.Token.{Token, begin_object, end_object, begin_array, end_array, key, string, number, boolean, null, bad}
use Rattle.serde_json.specs.Read.{number_of}
use Rattle.jsonpath_document.specs.declared.reading.Level.{Level}
use Rattle.jsonpath_document.specs.declared.reading.Level.TheVariants.{Array, Object}

-- where a reader of tokens stands: whether a value must come, and what is open, innermost first
abbrev pub Standing : Type 0
Standing = Bool × List Level

abbrev pub opened : Level → List Level → Option Standing
opened level levels = if nat_lt (length levels) 127 then Some (false, level ∷ levels) else None

-- after the first token of a value
abbrev pub after_value_token : List Level → Token → Option Standing
after_value_token levels begin_object = opened Object levels
after_value_token levels end_object = None
after_value_token levels begin_array = opened Array levels
after_value_token levels end_array = None
after_value_token levels (key s) = None
after_value_token levels (string s) = Some (false, levels)
after_value_token levels (number s) = if is_some (number_of s) then Some (false, levels) else None
after_value_token levels (boolean b) = Some (false, levels)
after_value_token levels null = Some (false, levels)
after_value_token levels bad = None

-- after a token in an array, and in an object
abbrev pub after_array_token : List Level → Token → Option Standing
after_array_token levels begin_object = opened Object (Array ∷ levels)
after_array_token levels end_object = None
after_array_token levels begin_array = opened Array (Array ∷ levels)
after_array_token levels end_array = Some (false, levels)
after_array_token levels (key s) = None
after_array_token levels (string s) = Some (false, Array ∷ levels)
after_array_token levels (number s) = if is_some (number_of s) then Some (false, Array ∷ levels) else None
after_array_token levels (boolean b) = Some (false, Array ∷ levels)
after_array_token levels null = Some (false, Array ∷ levels)
after_array_token levels bad = None

abbrev pub after_object_token : List Level → Token → Option Standing
after_object_token levels begin_object = None
after_object_token levels end_object = Some (false, levels)
after_object_token levels begin_array = None
after_object_token levels end_array = None
after_object_token levels (key s) = Some (true, Object ∷ levels)
after_object_token levels (string s) = None
after_object_token levels (number s) = None
after_object_token levels (boolean b) = None
after_object_token levels null = None
after_object_token levels bad = None

abbrev pub after_token : Bool → List Level → Token → Option Standing
after_token true levels t = after_value_token levels t
after_token false [] t = None
after_token false (Array ∷ levels) t = after_array_token levels t
after_token false (Object ∷ levels) t = after_object_token levels t

-- nothing is open, and no value must come
abbrev pub is_whole : Bool → List Level → Bool
is_whole true levels = false
is_whole false [] = true
is_whole false (level ∷ levels) = false

abbrev pub if_standing : Option Standing → (Bool → List Level → Bool) → Bool
if_standing None k = false
if_standing (Some s) k = k s.0 s.1

-- the tokens complete a document
unfoldable pub completes : List Token → Bool → List Level → Bool
completes [] wants levels = is_whole wants levels
completes (t ∷ ts) wants levels = if_standing (after_token wants levels t) (λ w l. completes ts w l)
