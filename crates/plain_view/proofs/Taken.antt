-- The numbers in use, by a look at each row.
use Rattle.std.proofs.Common.{◌≡◌, ℕ, Bool, true, false, ◌&&◌, ◌||◌, List, [], ◌∷◌, Option, Some, None, length, rules, refl, ap, ◌∙◌, map, ◌++◌}
use Rattle.std.specs.Prelude.{◌==◌, filter_map, is_none}
use Rattle.std.specs.Option.{option_eq}
use Rattle.std.proofs.lemmas.List.Elements.{filter_map-append}
use Rattle.std.specs.List.{list_any, list_all, cons_option}
use Rattle.pid_types.specs.declared.plain.Name.{Name}
use Rattle.pid_types.specs.declared.plain.Row.{Row}
use Rattle.pid_types.specs.declared.plain.Thread.{Thread}
use Rattle.pid_types.specs.Chains.{contains}
use Rattle.pid_types.specs.State.{State}
use Rattle.pid_types.specs.Names.{number, is_numbered, names_in_use, taken}
use Rattle.plain_view.specs.Uses.{uses_number, uses_none}

or_assoc : (a b c d : Bool) → a || (b || (c || d)) ≡ ((a || b) || c) || d
or_assoc true b c d = refl
or_assoc false true c d = refl
or_assoc false false c d = refl

or_assoc3 : (a b c : Bool) → a || (b || c) ≡ (a || b) || c
or_assoc3 true b c = refl
or_assoc3 false b c = refl

and_assoc : (a b c d : Bool) → a && (b && (c && d)) ≡ ((a && b) && c) && d
and_assoc false b c d = refl
and_assoc true false c d = refl
and_assoc true true c d = refl

contains-cons_option : (o : Option ℕ) (ns : List ℕ) (n : ℕ) → contains (cons_option o ns) n ≡ option_eq ◌==◌ o (Some n) || contains ns n
contains-cons_option None ns n = refl
contains-cons_option (Some m) ns n = refl

-- whether a number is among those of three names for each row
contains-names : (f : Name → Option ℕ) (n : ℕ) (rows : List Row)
    → contains (filter_map f (names_in_use rows)) n
    ≡ list_any (λ row. (option_eq ◌==◌ (f row.name) (Some n) || option_eq ◌==◌ (f row.group) (Some n)) || option_eq ◌==◌ (f row.session) (Some n)) rows
contains-names f n [] = refl
contains-names f n (row ∷ rows) =
    contains-cons_option (f row.name) (cons_option (f row.group) (cons_option (f row.session) (filter_map f (names_in_use rows)))) n
    ∙ ap (λ b. option_eq ◌==◌ (f row.name) (Some n) || b) (contains-cons_option (f row.group) (cons_option (f row.session) (filter_map f (names_in_use rows))) n)
    ∙ ap (λ b. option_eq ◌==◌ (f row.name) (Some n) || (option_eq ◌==◌ (f row.group) (Some n) || b)) (contains-cons_option (f row.session) (filter_map f (names_in_use rows)) n)
    ∙ ap (λ b. option_eq ◌==◌ (f row.name) (Some n) || (option_eq ◌==◌ (f row.group) (Some n) || (option_eq ◌==◌ (f row.session) (Some n) || b))) (contains-names f n rows)
    ∙ or_assoc (option_eq ◌==◌ (f row.name) (Some n)) (option_eq ◌==◌ (f row.group) (Some n)) (option_eq ◌==◌ (f row.session) (Some n)) _

contains-append : (ms ns : List ℕ) (n : ℕ) → contains (ms ++ ns) n ≡ contains ms n || contains ns n
contains-append [] ns n = refl
contains-append (m ∷ ms) ns n = ap (λ b. (m == n) || b) (contains-append ms ns n) ∙ or_assoc3 (m == n) (contains ms n) (contains ns n)

contains-threads : (f : Name → Option ℕ) (n : ℕ) (threads : List Thread)
    → contains (filter_map f (map (λ t. t.name) threads)) n ≡ list_any (λ t. option_eq ◌==◌ (f t.name) (Some n)) threads
contains-threads f n [] = refl
contains-threads f n (t ∷ threads) =
    contains-cons_option (f t.name) (filter_map f (map (λ t. t.name) threads)) n
    ∙ ap (λ b. option_eq ◌==◌ (f t.name) (Some n) || b) (contains-threads f n threads)

-- a number is taken where some thread or some row has it
pub contains-taken : (state : State) (s n : ℕ)
    → contains (taken state s) n
    ≡ list_any (λ t. is_numbered state.spaces t.name s n) state.threads || list_any (uses_number state.spaces s n) state.rows
unfolding taken
contains-taken state s n =
    ap (λ ns. contains ns n) (filter_map-append (λ name. number state.spaces name s) (map (λ t. t.name) state.threads) (names_in_use state.rows))
    ∙ contains-append (filter_map (λ name. number state.spaces name s) (map (λ t. t.name) state.threads)) (filter_map (λ name. number state.spaces name s) (names_in_use state.rows)) n
    ∙ ap (λ b. b || contains (filter_map (λ name. number state.spaces name s) (names_in_use state.rows)) n) (contains-threads (λ name. number state.spaces name s) n state.threads)
    ∙ ap (λ b. list_any (λ t. is_numbered state.spaces t.name s n) state.threads || b) (contains-names (λ name. number state.spaces name s) n state.rows)

empty-cons_option : (o : Option ℕ) (ns : List ℕ) → (length (cons_option o ns) == 0) ≡ is_none o && (length ns == 0)
empty-cons_option None ns = refl
empty-cons_option (Some m) ns = search rules

-- whether none of three names for each row has a number
empty-names : (f : Name → Option ℕ) (rows : List Row)
    → (length (filter_map f (names_in_use rows)) == 0) ≡ list_all (λ row. (is_none (f row.name) && is_none (f row.group)) && is_none (f row.session)) rows
empty-names f [] = refl
empty-names f (row ∷ rows) =
    empty-cons_option (f row.name) (cons_option (f row.group) (cons_option (f row.session) (filter_map f (names_in_use rows))))
    ∙ ap (λ b. is_none (f row.name) && b) (empty-cons_option (f row.group) (cons_option (f row.session) (filter_map f (names_in_use rows))))
    ∙ ap (λ b. is_none (f row.name) && (is_none (f row.group) && b)) (empty-cons_option (f row.session) (filter_map f (names_in_use rows)))
    ∙ ap (λ b. is_none (f row.name) && (is_none (f row.group) && (is_none (f row.session) && b))) (empty-names f rows)
    ∙ and_assoc (is_none (f row.name)) (is_none (f row.group)) (is_none (f row.session)) _

empty-append : (ms ns : List ℕ) → (length (ms ++ ns) == 0) ≡ (length ms == 0) && (length ns == 0)
empty-append [] ns = refl
empty-append (m ∷ ms) ns = search rules

empty-threads : (f : Name → Option ℕ) (threads : List Thread)
    → (length (filter_map f (map (λ t. t.name) threads)) == 0) ≡ list_all (λ t. is_none (f t.name)) threads
empty-threads f [] = refl
empty-threads f (t ∷ threads) =
    empty-cons_option (f t.name) (filter_map f (map (λ t. t.name) threads)) ∙ ap (λ b. is_none (f t.name) && b) (empty-threads f threads)

-- no number is taken where no thread and no row has one
pub empty-taken : (state : State) (s : ℕ)
    → (length (taken state s) == 0)
    ≡ list_all (λ t. is_none (number state.spaces t.name s)) state.threads && list_all (uses_none state.spaces s) state.rows
unfolding taken
empty-taken state s =
    ap (λ ns. length ns == 0) (filter_map-append (λ name. number state.spaces name s) (map (λ t. t.name) state.threads) (names_in_use state.rows))
    ∙ empty-append (filter_map (λ name. number state.spaces name s) (map (λ t. t.name) state.threads)) (filter_map (λ name. number state.spaces name s) (names_in_use state.rows))
    ∙ ap (λ b. b && (length (filter_map (λ name. number state.spaces name s) (names_in_use state.rows)) == 0)) (empty-threads (λ name. number state.spaces name s) state.threads)
    ∙ ap (λ b. list_all (λ t. is_none (number state.spaces t.name s)) state.threads && b) (empty-names (λ name. number state.spaces name s) state.rows)
