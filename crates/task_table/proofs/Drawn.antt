-- What one more identifier leaves as it was.
use Rattle.std.proofs.Common.{◌≡◌, ◌≢◌, ◌⊎◌, inl, inr, ℕ, ◌<◌, List, [], ◌∷◌, length, Option, Some, None, refl, sym, ap, ◌∙◌, arith, option_map, option_and_then, unwrap_or}
use Rattle.std.specs.Prelude.{reverse}
use Rattle.std.specs.Option.{option_map_or}
use Rattle.std.proofs.lemmas.Bool.{cases_eq}
use Rattle.pid_types.specs.declared.plain.Name.{Name}
use Rattle.pid_types.specs.State.{root_name}
use Rattle.pid_types.specs.Names.{beside}
use Rattle.pid_numbers.specs.Numbering.{Numbering, Namespace, Identifier, namespace_at, id_at, identifier_at, number_in, number_of, path_at}
use Rattle.task_table.specs.Store.{bare, bare_at}
use Rattle.task_table.specs.Collect.{collect}
use Rattle.task_table.specs.View.{name_of, name_at, key_numbered}
use Rattle.task_table.specs.Lawful.{HasLaws}
use Rattle.task_table.proofs.Collects.{collect-same}
use Rattle.task_table.proofs.Keys.{key-no, key-none, key-of, key-some, on_path}

-- namespaces from before have the ids and the paths that they had
abbrev pub KeepsNamespaces : Numbering → Numbering → Type 0
KeepsNamespaces b c = (q : ℕ) (n : Namespace) → namespace_at b q ≡ Some n → (id_at c q ≡ id_at b q) × (path_at c q ≡ path_at b q)

pub some_of : {X : Type 0} (x y : X) → ◌≡◌ {A = Option X} (Some x) (Some y) → x ≡ y
some_of x y e = ap (λ o. option_map_or (λ z. z) o x) e

abbrev pub named_in : ℕ → List ℕ → Name
named_in i ns = record { space = i; numbers = record { items = reverse ns } }

-- an identifier came at a key that had none, and all others are what they were but for their uses
pub record DrawsOne (b c : Numbering) (key : ℕ) : Type 0 where
  pub before : HasLaws b
  pub fresh : identifier_at b key ≡ None
  pub names : (i : ℕ) → i ≢ key → bare_at c i ≡ bare_at b i
  pub keeps : KeepsNamespaces b c

module _ {b c : Numbering} {key : ℕ} (drew : DrawsOne b c key) where
  open drew use {before as h, fresh, names, keeps}

  home_there : (u : Identifier) (k : ℕ) → identifier_at b k ≡ Some u → (n : Namespace) × (namespace_at b u.space ≡ Some n)
  home_there u k e = go (path_at b u.space) refl (h.full k u e)
    where
      go : (p : List ℕ) → path_at b u.space ≡ p → (0 < length u.numbers) × (length u.numbers ≡ length (path_at b u.space)) → (n : Namespace) × (namespace_at b u.space ≡ Some n)
      go [] is f = absurd (let z : length u.numbers ≡ 0 = f.1 ∙ ap length is in let y = f.0 in omega (arith, z, y))
      go (q ∷ qs) is f = on_path b h u.space q qs is

  was_there : (k : ℕ) (u : Identifier) → identifier_at b k ≡ Some u → k ≢ key
  was_there k u e same = let z : None ≡ Some u = sym fresh ∙ ap (identifier_at b) (sym same) ∙ e in cc

  -- the identifiers from before
  still : (k : ℕ) (u : Identifier) → identifier_at b k ≡ Some u → (v : Identifier) × (identifier_at c k ≡ Some v) × (v.space ≡ u.space) × (v.numbers ≡ u.numbers)
  still k u e = go (identifier_at c k) refl (names k (was_there k u e) ∙ ap (option_map bare) e)
    where
      go : (o : Option Identifier) → identifier_at c k ≡ o → option_map bare o ≡ Some (bare u) → (v : Identifier) × (identifier_at c k ≡ Some v) × (v.space ≡ u.space) × (v.numbers ≡ u.numbers)
      go None is z = absurd (cc)
      go (Some v) is z = let same = some_of (bare v) (bare u) z in (v, is, ap (λ (x : Identifier). x.space) same, ap (λ (x : Identifier). x.numbers) same)

  pub name-kept : (k : ℕ) (u : Identifier) → identifier_at b k ≡ Some u → name_at c k ≡ name_at b k
  name-kept k u e =
      let v = still k u e in
      let n = home_there u k e in
      ap (λ o. option_map_or (name_of c) o root_name) v.1
      ∙ ap (λ q. named_in (unwrap_or (id_at c q) 0) v.0.numbers) v.2
      ∙ ap (λ o. named_in (unwrap_or o 0) v.0.numbers) (keeps u.space n.0 n.1).0
      ∙ ap (named_in (unwrap_or (id_at b u.space) 0)) v.3
      ∙ sym (ap (λ o. option_map_or (name_of b) o root_name) e)

  pub root_kept : (k : ℕ) → k ≢ key → number_of c k 0 ≡ number_of b k 0
  root_kept k differs = go (identifier_at b k) refl
    where
      gone : (o : Option Identifier) → option_map bare o ≡ None → o ≡ None
      gone None e = refl
      gone (Some v) e = absurd (cc)

      go : (o : Option Identifier) → identifier_at b k ≡ o → number_of c k 0 ≡ number_of b k 0
      go None e = ap (number_in (path_at c) 0) (gone (identifier_at c k) (names k differs ∙ ap (option_map bare) e)) ∙ sym (ap (number_in (path_at b) 0) e)
      go (Some u) e =
          let v = still k u e in
          let n = home_there u k e in
          ap (number_in (path_at c) 0) v.1 ∙ ap (λ q. beside 0 (path_at c q) v.0.numbers) v.2 ∙ ap (λ p. beside 0 p v.0.numbers) (keeps u.space n.0 n.1).1
          ∙ ap (beside 0 (path_at b u.space)) v.3 ∙ sym (ap (number_in (path_at b) 0) e)

  module _ (after : HasLaws c) (n : ℕ) (has : number_of c key 0 ≡ Some n) where
    -- the new number was nobody's
    pub key-free : key_numbered b 0 n ≡ None
    key-free = key-no b h 0 n (λ k at. go (cases_eq k key) at)
      where
        go : {k : ℕ} → (k ≡ key) ⊎ (k ≢ key) → number_of b k 0 ≡ Some n → ⊥
        go (inl same) at = let z : None ≡ Some n = sym (ap (number_in (path_at b) 0) fresh) ∙ ap (λ j. number_of b j 0) (sym same) ∙ at in cc
        go (inr differs) at = differs (after.distinct _ key 0 n (root_kept _ differs ∙ at) has)

    -- it is the new identifier's, and all other numbers are whose they were
    pub key-here : key_numbered c 0 n ≡ Some key
    key-here = key-of c after 0 n key has

    pub keys-kept : (m : ℕ) → m ≢ n → key_numbered c 0 m ≡ key_numbered b 0 m
    keys-kept m away = go (key_numbered b 0 m) refl
      where
        go : (o : Option ℕ) → key_numbered b 0 m ≡ o → key_numbered c 0 m ≡ o
        go (Some k) e =
            let at = key-some b h 0 m k e in
            let differs : k ≢ key = (λ same. let z : None ≡ Some m = sym (ap (number_in (path_at b) 0) fresh) ∙ ap (λ j. number_of b j 0) (sym same) ∙ at in cc) in
            key-of c after 0 m k (root_kept k differs ∙ at)
        go None e = key-no c after 0 m (λ k at. other k at (cases_eq k key))
          where
            other : (k : ℕ) → number_of c k 0 ≡ Some m → (k ≡ key) ⊎ (k ≢ key) → ⊥
            other k at (inl same) = away (some_of m n (sym at ∙ ap (λ j. number_of c j 0) same ∙ has))
            other k at (inr differs) = key-none b h 0 m e k (sym (root_kept k differs) ∙ at)

    -- what is at a key that stood is found by its number as before
    pub found-kept : {X : Type 0} (f g : ℕ → Option X) → ((k : ℕ) → k ≢ key → g k ≡ f k) → (m : ℕ) → m ≢ n → option_and_then g (key_numbered c 0 m) ≡ option_and_then f (key_numbered b 0 m)
    found-kept f g same m away = ap (option_and_then g) (keys-kept m away) ∙ go (key_numbered b 0 m) refl
      where
        go : (o : Option ℕ) → key_numbered b 0 m ≡ o → option_and_then g o ≡ option_and_then f o
        go None e = refl
        go (Some k) e = same k (λ is.
            let z : None ≡ Some m = sym (ap (number_in (path_at b) 0) fresh) ∙ ap (λ j. number_of b j 0) (sym is) ∙ key-some b h 0 m k e in cc)

    -- where nothing is at the new key the list is as before
    pub listed-kept : {X : Type 0} (f g : ℕ → Option X) → ((k : ℕ) → k ≢ key → g k ≡ f k) → g key ≡ None → (len : ℕ) → collect (λ m. option_and_then g (key_numbered c 0 m)) 0 len ≡ collect (λ m. option_and_then f (key_numbered b 0 m)) 0 len
    listed-kept f g same none len = collect-same (λ m. option_and_then f (key_numbered b 0 m)) (λ m. option_and_then g (key_numbered c 0 m)) 0 len (λ m _. go m (cases_eq m n))
      where
        go : (m : ℕ) → (m ≡ n) ⊎ (m ≢ n) → option_and_then g (key_numbered c 0 m) ≡ option_and_then f (key_numbered b 0 m)
        go m (inl is) =
            ap (λ j. option_and_then g (key_numbered c 0 j)) is ∙ ap (option_and_then g) key-here ∙ none
            ∙ sym (ap (λ j. option_and_then f (key_numbered b 0 j)) is ∙ ap (option_and_then f) key-free)
        go m (inr away) = found-kept f g same m away
