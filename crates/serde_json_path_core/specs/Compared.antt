-- Comparison of values (RFC 9535, section 2.3.5.2.2). How numbers of documents are taken, the function set says. By whole
-- numbers, this project's own rule, a number that is not held as an integer equals no value, itself included, and is not
-- ordered; by all numbers each stands for its exact value. An object's members are taken as a document has them: each name
-- once, in the order of the names' bytes.
use Rattle.std.specs.Prelude.{◌≡◌, ℤ, pos, ◌*ℤ◌, ◌<ℤ◌, ◌⊎◌, Option, Some, None, option_map}
use Rattle.serde_json_path_core.specs.Imports.{Float, nat_cmp, Less, slice_cmp, chars, Num, Data, null, boolean, number, float, string, array, object, Items, Members, no_items, item, no_members, member, as_integer, decimal_number, document_number, literal_number, AreEqualNumbers, IsLessNumber, Numbers, whole_numbers, all_numbers, Literal, Operator, equal, not_equal, less, less_or_equal, greater, greater_or_equal}
use Rattle.serde_json_path_syntax.specs.Tree as tree

-- what a comparable stands for: Nothing, a value, or the billionths of a number literal
pub data Compared : Type 0 where
  nothing : Compared
  value : Data → Compared
  billionths : ℤ → Compared

-- ---- numbers

-- both are there, and equal
abbrev pub AreEqualAmounts : Option ℤ → Option ℤ → Type 0
AreEqualAmounts (Some a) (Some b) = a ≡ b
AreEqualAmounts _ _ = ⊥

-- both are there, and the first is less
abbrev pub AreRisingAmounts : Option ℤ → Option ℤ → Type 0
AreRisingAmounts (Some a) (Some b) = a <ℤ b
AreRisingAmounts _ _ = ⊥

-- the same of exact numbers
abbrev pub AreEqualExact : Option Float → Option Float → Type 0
AreEqualExact (Some a) (Some b) = AreEqualNumbers a b
AreEqualExact _ _ = ⊥

abbrev pub AreRisingExact : Option Float → Option Float → Type 0
AreRisingExact (Some a) (Some b) = IsLessNumber a b
AreRisingExact _ _ = ⊥

-- the billionths of what is a whole number or the number of a literal
abbrev pub amount_of : Compared → Option ℤ
amount_of nothing = None
amount_of (value (number n)) = option_map (λ whole. whole *ℤ pos 1000000000) (as_integer n)
amount_of (value _) = None
amount_of (billionths amount) = Some amount

-- the exact number of what is a number
abbrev pub exact_of : Compared → Option Float
exact_of nothing = None
exact_of (value (number n)) = Some (document_number n)
exact_of (value _) = None
exact_of (billionths amount) = Some (literal_number amount)

-- two numbers of documents are equal
abbrev pub EqualNumbers : Numbers → Num → Num → Type 0
EqualNumbers whole_numbers a b = AreEqualAmounts (as_integer a) (as_integer b)
EqualNumbers all_numbers a b = AreEqualNumbers (document_number a) (document_number b)

-- two sides are numbers, one at least of a literal, and equal
abbrev pub EqualSides : Numbers → Compared → Compared → Type 0
EqualSides whole_numbers a b = AreEqualAmounts (amount_of a) (amount_of b)
EqualSides all_numbers a b = AreEqualExact (exact_of a) (exact_of b)

-- two sides are numbers, and the first is less
abbrev pub RisingSides : Numbers → Compared → Compared → Type 0
RisingSides whole_numbers a b = AreRisingAmounts (amount_of a) (amount_of b)
RisingSides all_numbers a b = AreRisingExact (exact_of a) (exact_of b)

-- ---- values

module _ (numbers : Numbers) where
  -- Numbers by value, texts by their characters, arrays item by item, objects by their names and values in order; values of
  -- two kinds are never equal.
  abbrev mutual
    pub EqualData : Data → Data → Type 0
    EqualData null null = Unit {0}
    EqualData (boolean a) (boolean b) = a ≡ b
    EqualData (number a) (number b) = EqualNumbers numbers a b
    EqualData (string a) (string b) = a ≡ b
    EqualData (array xs) (array ys) = EqualItems xs ys
    EqualData (object xs) (object ys) = EqualMembers xs ys
    EqualData _ _ = ⊥

    pub EqualItems : Items → Items → Type 0
    EqualItems no_items no_items = Unit {0}
    EqualItems (item a xs) (item b ys) = EqualData a b × EqualItems xs ys
    EqualItems _ _ = ⊥

    pub EqualMembers : Members → Members → Type 0
    EqualMembers no_members no_members = Unit {0}
    EqualMembers (member k a xs) (member l b ys) = (k ≡ l) × EqualData a b × EqualMembers xs ys
    EqualMembers _ _ = ⊥

  -- ---- comparables

  -- `==`: Nothing equals Nothing and no value
  abbrev pub AreEqual : Compared → Compared → Type 0
  AreEqual nothing nothing = Unit {0}
  AreEqual (value a) (value b) = EqualData a b
  AreEqual (value a) (billionths b) = EqualSides numbers (value a) (billionths b)
  AreEqual (billionths a) b = EqualSides numbers (billionths a) b
  AreEqual _ _ = ⊥

  -- `<`: two texts by Unicode scalar values, or two numbers
  abbrev pub IsLess : Compared → Compared → Type 0
  IsLess (value (string a)) (value (string b)) = slice_cmp nat_cmp (chars a) (chars b) ≡ Less
  IsLess a b = RisingSides numbers a b

  -- `!=` negates `==`; `<=` is `<` or `==`; `>` and `>=` are `<` and `<=` with the sides swapped
  abbrev pub Compares : Operator → Compared → Compared → Type 0
  Compares equal a b = AreEqual a b
  Compares not_equal a b = AreEqual a b → ⊥
  Compares less a b = IsLess a b
  Compares less_or_equal a b = IsLess a b ⊎ AreEqual a b
  Compares greater a b = IsLess b a
  Compares greater_or_equal a b = IsLess b a ⊎ AreEqual b a

-- what a literal stands for
abbrev pub literal_compared : Literal → Compared
literal_compared (tree.text t) = value (string t)
literal_compared (tree.number amount) = billionths amount
literal_compared (tree.decimal d) = value (number (float (decimal_number d)))
literal_compared (tree.truth b) = value (boolean b)
literal_compared tree.null = value null

-- what a value or Nothing stands for in a comparison
abbrev pub value_compared : Option Data → Compared
value_compared None = nothing
value_compared (Some d) = value d
