-- `any` is true if a text passes the test, and its texts are those of the condition.
use Rattle.std.proofs.Common.{◌≡◌, ℕ, Bool, ◌||◌, nat_eq, List, [], ◌∷◌, map, refl, sym, ap, ◌∙◌, Bor, rules, tests}
use Rattle.std.specs.List.{list_any, starts_with, ends_with}
use Rattle.std.specs.Str.{str_eq_ignore_ascii_case}
use Rattle.std.proofs.lemmas.Iterator.{YieldsList-from_slice}
use Rattle.std.proofs.lemmas.Iterator.Search.{any_from_yields_List}
use Rattle.serde_json_path_hints.specs.Conditions.{holds, word_of, is_one_letter_away, is_met}
use Rattle.serde_json_path_hints.specs.Inside.Lent.{LentTexts, text_of, condition_of}
use Rattle.serde_json_path_hints.specs.declared.condition.Condition.{Condition}
use Rattle.serde_json_path_hints.proofs.condition.is_met.Goals as goal

any_now : (test : List ℕ → Bool) (texts : List (Bor (List ℕ)))
    → list_any (λ text. test text.now) texts ≡ list_any (λ text. test text.now) (map text_of texts)
any_now test [] = refl
any_now test (text ∷ texts) = ap (λ b. test text.now || b) (any_now test texts)

-- a condition of some texts is met where one of them passes its test
met : (text : List ℕ) (test : List ℕ → Bool) (texts : LentTexts) {own read : Condition LentTexts} {answer : Bool} → own ≡ read
    → is_met (condition_of read) text ≡ list_any (λ t. test t.now) (map text_of texts.now) → answer ≡ list_any (λ t. test t.now) texts.now → answer ≡ is_met (condition_of own) text
met text test texts is means any = any ∙ any_now test texts.now ∙ sym (ap (λ s. is_met (condition_of s) text) is ∙ means)

pub returns-in-Starts : goal.returns-in-Starts
returns-in-Starts c =
    let test : List ℕ → Bool = starts_with nat_eq c.args.text.now in
    met c.args.text.now test c.in-Starts.starts c.in-Starts.is refl
    (any_from_yields_List (λ text. test text.now) _ _ _ c.any.ensures.ran (YieldsList-from_slice c.in-Starts.starts.now cc) (λ x b q k. search (rules, tests)))

pub returns-in-Ends : goal.returns-in-Ends
returns-in-Ends c =
    let test : List ℕ → Bool = ends_with nat_eq c.args.text.now in
    met c.args.text.now test c.in-Ends.ends c.in-Ends.is refl
    (any_from_yields_List (λ text. test text.now) _ _ _ c.any-in-Ends.ensures.ran (YieldsList-from_slice c.in-Ends.ends.now cc) (λ x b q k. search (rules, tests)))

pub returns-in-Holds : goal.returns-in-Holds
returns-in-Holds c =
    let test : List ℕ → Bool = holds c.args.text.now in
    met c.args.text.now test c.in-Holds.parts c.in-Holds.is refl
    (any_from_yields_List (λ text. test text.now) _ _ _ c.any-in-Holds.ensures.ran (YieldsList-from_slice c.in-Holds.parts.now cc) (λ x b q k. search (rules, tests)))

pub returns-in-Word : goal.returns-in-Word
returns-in-Word c =
    let test : List ℕ → Bool = str_eq_ignore_ascii_case (word_of c.args.text.now) in
    met c.args.text.now test c.in-Word.words c.in-Word.is refl
    (any_from_yields_List (λ text. test text.now) _ _ _ c.any-in-Word.ensures.ran (YieldsList-from_slice c.in-Word.words.now cc) (λ x b q k. search (rules, tests)))

pub returns-in-Near : goal.returns-in-Near
returns-in-Near c =
    let test : List ℕ → Bool = is_one_letter_away (word_of c.args.text.now) in
    met c.args.text.now test c.in-Near.names c.in-Near.is refl
    (any_from_yields_List (λ text. test text.now) _ _ _ c.any-in-Near.ensures.ran (YieldsList-from_slice c.in-Near.names.now cc) (λ x b q k. search (rules, tests)))
