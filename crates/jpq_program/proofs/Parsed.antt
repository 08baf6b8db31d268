-- The paths of words, one after the other.
use Rattle.jpq_program.proofs.Words.{AreKnown, IfSome, Option, ReadsFurther, Some, append-nil, append_assoc, get_or-map, has_text, known_bytes, length-map, path_lines, take_all, ◌≤◌, texts_in_file, without_mark, ◌≡◌, ◌∙◌, ◌+◌, ◌<◌, ℕ, List, [], ◌∷◌, ◌++◌, map, take, get_or, length, sym, ap, subst, AllZip, AreAskedBy, ArePaths, AskedPath, Bor, IsAskedBy, Reading, refl, texts_asked, Bool, Options, codes, false, if◌then◌else◌, names_in, nat_eq, true}
use Rattle.jpq_program.proofs.Nodes.{further_mapped}
use Rattle.jpq_program.proofs.Sending.{known_at, same_item}
use Rattle.std.proofs.lemmas.Grind.{flat_map-append}
use Rattle.std.proofs.lemmas.List.Concat.{flat_map-cons}
use Rattle.std.proofs.lemmas.List.Elements.{filter-append}
use Rattle.std.specs.List.{filter, flat_map}
use Rattle.std.specs.Prelude.{unwrap_or}

all_zip_both : {A B : Type 0} (R : A → B → Type 0) (xs zs : List A) (ys ws : List B) → AllZip R xs ys → AllZip R zs ws → AllZip R (xs ++ zs) (ys ++ ws)
all_zip_both R [] zs [] ws are more = more
all_zip_both R [] zs (b ∷ ys) ws are more = absurd are
all_zip_both R (a ∷ xs) zs [] ws are more = absurd are
all_zip_both R (a ∷ xs) zs (b ∷ ys) ws are more = (are.0, all_zip_both R xs zs ys ws are.1 more)

-- one more of some words was read as a path
pub paths_further : (reading reading_now : Reading) (texts : List (Bor (List ℕ))) (index : ℕ) (none : Bor (List ℕ)) (paths later : List AskedPath) (path : AskedPath) → index < length texts → reading_now ≡ reading → later ≡ paths ++ path ∷ []
    → AreAskedBy reading (map (λ (text : Bor (List ℕ)). text.now) (take index texts)) paths → IsAskedBy reading_now (get_or texts index none).now path
    → AreAskedBy reading (map (λ (text : Bor (List ℕ)). text.now) (take (index + 1) texts)) later
paths_further reading reading_now texts index none paths later path within same more are is =
    let text = get_or texts index none in
    subst (AreAskedBy reading (map (λ (text : Bor (List ℕ)). text.now) (take (index + 1) texts))) (sym more)
    (subst (λ (some : List (List ℕ)). AreAskedBy reading some (paths ++ path ∷ [])) (sym (further_mapped (λ (text : Bor (List ℕ)). text.now) texts index text within (same_item texts index none text within)))
    (all_zip_both (IsAskedBy reading) (map (λ (text : Bor (List ℕ)). text.now) (take index texts)) (text.now ∷ []) paths (path ∷ []) are (subst (λ reading. IsAskedBy reading text.now path) same is, tt)))

-- what was read of texts are paths, with these texts
pub are_paths : (reading : Reading) (texts : List (List ℕ)) (asked : List AskedPath) → AreAskedBy reading texts asked → ArePaths reading texts (map (λ (path : AskedPath). path.path) asked)
are_paths reading [] [] are = are
are_paths reading [] (path ∷ asked) are = absurd are
are_paths reading (text ∷ texts) [] are = absurd are
are_paths reading (text ∷ texts) (path ∷ asked) are = (are.0.0, are_paths reading texts asked are.1)

pub are_texts : (reading : Reading) (texts : List (List ℕ)) (asked : List AskedPath) → AreAskedBy reading texts asked → texts_asked asked ≡ texts
are_texts reading [] [] are = refl
are_texts reading [] (path ∷ asked) are = absurd are
are_texts reading (text ∷ texts) [] are = absurd are
are_texts reading (text ∷ texts) (path ∷ asked) are = ap (λ (first : List ℕ). first ∷ texts_asked asked) are.0.1 ∙ ap (λ (rest : List (List ℕ)). text ∷ rest) (are_texts reading texts asked are.1)

-- ---- the paths of files

abbrev texts_of : List (Bor (List ℕ)) → List (List ℕ)
texts_of texts = map (λ (text : Bor (List ℕ)). text.now) texts

-- the texts of some lines, and of another after them
texts_further : (lines : List (Bor (List ℕ))) (index : ℕ) (none : Bor (List ℕ)) (own : List (List ℕ)) → index < length lines → filter has_text ((get_or lines index none).now ∷ []) ≡ own
    → filter has_text (texts_of (take (index + 1) lines)) ≡ filter has_text (texts_of (take index lines)) ++ own
texts_further lines index none own within is =
    let line = get_or lines index none in
    ap (filter has_text) (further_mapped (λ (text : Bor (List ℕ)). text.now) lines index line within (same_item lines index none line within))
    ∙ filter-append has_text (texts_of (take index lines)) (line.now ∷ [])
    ∙ ap (λ (more : List (List ℕ)). filter has_text (texts_of (take index lines)) ++ more) is

one_or_none : (text : List ℕ) (has : Bool) → has_text text ≡ has → filter has_text (text ∷ []) ≡ (if has then text ∷ [] else [])
one_or_none text has is = ap (λ (b : Bool). if b then text ∷ [] else []) is

-- a line without a path was passed over
pub line_passed : (reading : Reading) (lines : List (Bor (List ℕ))) (index : ℕ) (none : Bor (List ℕ)) (before after : List AskedPath) → index < length lines → has_text (get_or lines index none).now ≡ false
    → ReadsFurther reading (filter has_text (texts_of (take index lines))) before after → ReadsFurther reading (filter has_text (texts_of (take (index + 1) lines))) before after
line_passed reading lines index none before after within empty read =
    subst (λ (texts : List (List ℕ)). ReadsFurther reading texts before after) (sym (texts_further lines index none [] within (one_or_none (get_or lines index none).now false empty) ∙ append-nil (filter has_text (texts_of (take index lines))))) read

-- the path of a line was read
pub line_read : (reading reading_now : Reading) (lines : List (Bor (List ℕ))) (index : ℕ) (none : Bor (List ℕ)) (before old after : List AskedPath) (path : AskedPath) → index < length lines → has_text (get_or lines index none).now ≡ true
    → reading_now ≡ reading → after ≡ old ++ path ∷ [] → ReadsFurther reading (filter has_text (texts_of (take index lines))) before old → IsAskedBy reading_now (get_or lines index none).now path
    → ReadsFurther reading (filter has_text (texts_of (take (index + 1) lines))) before after
line_read reading reading_now lines index none before old after path within some same more read is =
    let text = (get_or lines index none).now in
    let texts = filter has_text (texts_of (take index lines)) in
    let these = read.0 ++ path ∷ [] in (
      these,
      more ∙ ap (λ (paths : List AskedPath). paths ++ path ∷ []) read.1 ∙ append_assoc before read.0 (path ∷ []),
      subst (λ (all : List (List ℕ)). AreAskedBy reading all these) (sym (texts_further lines index none (text ∷ []) within (one_or_none text true some)))
          (all_zip_both (IsAskedBy reading) texts (text ∷ []) read.0 (path ∷ []) read.2 (subst (λ reading. IsAskedBy reading text path) same is, tt)),
    )

-- the paths of another file were read
pub file_read : (reading : Reading) (bytes_of bytes_now : List ℕ → Option (List ℕ)) (words : List (List ℕ)) (files : List (Bor (List ℕ))) (index : ℕ) (none : Bor (List ℕ)) (before after : List AskedPath) (text lines : List ℕ) → index < length files
    → ((name : List ℕ) → bytes_now name ≡ bytes_of name) → AreKnown bytes_of (texts_of files) → IfSome (bytes_now (get_or files index none).now) (λ bytes. text ≡ bytes) → lines ≡ without_mark text
    → AreAskedBy reading (words ++ flat_map (λ name. texts_in_file (known_bytes bytes_of name)) (texts_of (take index files))) before
    → ReadsFurther reading (filter has_text (path_lines lines)) before after
    → AreAskedBy reading (words ++ flat_map (λ name. texts_in_file (known_bytes bytes_of name)) (texts_of (take (index + 1) files))) after
file_read reading bytes_of bytes_now words files index none before after text lines within same known is marked are read =
    let file = get_or files index none in
    let here = known index (subst (λ n. index < n) (sym (length-map files (λ (file : Bor (List ℕ)). file.now))) within) in
    let bytes : bytes_of file.now ≡ Some here.0 = ap bytes_of (sym (get_or-map (λ (file : Bor (List ℕ)). file.now) files index none [] within)) ∙ here.1 in
    let texts = λ (name : List ℕ). texts_in_file (known_bytes bytes_of name) in
    let done = flat_map texts (texts_of (take index files)) in
    let own : filter has_text (path_lines lines) ≡ texts file.now =
    ap (λ (t : List ℕ). filter has_text (path_lines t)) marked
    ∙ ap texts_in_file (known_at (λ (bytes : List ℕ). text ≡ bytes) (bytes_now file.now) here.0 (same file.now ∙ bytes) is)
    ∙ sym (ap (λ (known : Option (List ℕ)). texts_in_file (unwrap_or known [])) bytes) in
    let further : words ++ flat_map texts (texts_of (take (index + 1) files)) ≡ (words ++ done) ++ texts file.now =
    ap (λ (names : List (List ℕ)). words ++ flat_map texts names) (further_mapped (λ (file : Bor (List ℕ)). file.now) files index file within (same_item files index none file within))
    ∙ ap (λ (all : List (List ℕ)). words ++ all) (flat_map-append texts (texts_of (take index files)) (file.now ∷ []) ∙ ap (λ (all : List (List ℕ)). done ++ all) (flat_map-cons texts file.now [] ∙ append-nil (texts file.now)))
    ∙ sym (append_assoc words done (texts file.now)) in
    subst (λ (all : List (List ℕ)). AreAskedBy reading all after) (sym further)
    (subst (AreAskedBy reading ((words ++ done) ++ texts file.now)) (sym read.1)
    (all_zip_both (IsAskedBy reading) (words ++ done) (texts file.now) before read.0 are
    (subst (λ (own : List (List ℕ)). AreAskedBy reading own read.0) own read.2)))

-- the paths of all files were
pub files_read : (reading reading_now : Reading) (texts : List ℕ → List (List ℕ)) (words : List (List ℕ)) (files listed : List (Bor (List ℕ))) (index : ℕ) (asked : List AskedPath) → length files ≤ index → files ≡ listed → reading_now ≡ reading
    → AreAskedBy reading_now (words ++ flat_map texts (texts_of (take index files))) asked → AreAskedBy reading (words ++ flat_map texts (texts_of listed)) asked
files_read reading reading_now texts words files listed index asked done same is are =
    subst (λ (some : List (Bor (List ℕ))). AreAskedBy reading (words ++ flat_map texts (texts_of some)) asked) (take_all index files done ∙ same)
    (subst (λ (r : Reading). AreAskedBy r (words ++ flat_map texts (texts_of (take index files))) asked) is are)

-- ---- the names of inputs

-- the names of inputs, where none is given, and where some are
pub none_named : (options : Options) → nat_eq (length options.files.items) 0 ≡ true → names_in options ≡ codes "-" ∷ []
none_named options none = ap (λ (b : Bool). if b then codes "-" ∷ [] else map (λ (file : Bor (List ℕ)). file.now) options.files.items) none

pub some_named : (options : Options) → nat_eq (length options.files.items) 0 ≡ false → names_in options ≡ map (λ (file : Bor (List ℕ)). file.now) options.files.items
some_named options some = ap (λ (b : Bool). if b then codes "-" ∷ [] else map (λ (file : Bor (List ℕ)). file.now) options.files.items) some
