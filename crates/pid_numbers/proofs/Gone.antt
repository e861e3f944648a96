-- An identifier that goes: its numbers are free, and a namespace that is dead then goes too.
use Rattle.pid_numbers.proofs.Words.{◌≡◌, ◌≢◌, ◌∙◌, ℕ, Bool, List, length, map, None, Some, ap, filter, option_map, sym, Ids, TreeOfSpaces, way}
use Rattle.pid_numbers.proofs.Words.{IsDistinct, distinct-path, Identifier, Numbering, is_there, namespace_at, swept_at, AreAround, AreFreed, AreIn, AreSwept, IsNumberTable}
use Rattle.pid_numbers.proofs.Words.{cursor_on, namespaces_with, numbering_of, Table, identifier_of, ident_at}
use Rattle.pid_numbers.proofs.Views as views
use Rattle.pid_numbers.proofs.Drops as drops

-- what is said of the namespaces before the call, with the identifiers that are left
pub swept_from : (pid_max : ℕ) (tree : TreeOfSpaces) (ids ids1 : List (Ids ℕ)) (idents idents1 : Table) (b : Numbering) → numbering_of pid_max tree ids idents ≡ b → ((s : ℕ) → cursor_on ids1 s ≡ cursor_on ids s)
    → (s : ℕ) → swept_at (numbering_of pid_max tree ids1 idents1) s ≡ swept_at (record b { names = map (option_map identifier_of) idents1.slots }) s
swept_from pid_max tree ids ids1 idents idents1 b view cursors s =
    drops.swept-next (numbering_of pid_max tree ids1 idents1) idents.vacant_key s
    ∙ ap (λ k. swept_at (record { pid_max = pid_max; next = idents.vacant_key; namespaces = namespaces_with k tree.nodes; names = map (option_map identifier_of) idents1.slots; order = tree.order }) s) (λ i s. cursors s i)
    ∙ ap (λ b. swept_at (record b { names = map (option_map identifier_of) idents1.slots }) s) view

-- the identifier with the key is there no more, and these were its namespace and its numbers
pub record IsGone (pid_max : ℕ) (tree : TreeOfSpaces) (ids : List (Ids ℕ)) (idents idents1 : Table) (i space : ℕ) (numbers : List ℕ) : Type 0 where
  pub kept : IsNumberTable pid_max tree ids idents
  pub identifier : Identifier
  pub was : ident_at idents i ≡ Some identifier
  pub home : space ≡ identifier.space
  pub path : numbers ≡ identifier.numbers
  pub now : ident_at idents1 i ≡ None
  pub others : (j : ℕ) → j ≢ i → ident_at idents1 j ≡ ident_at idents j

module _ {pid_max : ℕ} {tree : TreeOfSpaces} {ids : List (Ids ℕ)} {idents idents1 : Table} {i space : ℕ} {numbers : List ℕ} (g : IsGone pid_max tree ids idents idents1 i space numbers) where
  pub path-in : AreIn ids (way tree.nodes space)
  path-in = views.path_in pid_max tree ids idents g.kept.whole.numbering g.kept.count space

  pub path-distinct : IsDistinct (way tree.nodes space)
  path-distinct = distinct-path (way tree.nodes) (way tree.nodes space) (g.kept.whole.numbering.tree.paths space)

  pub path-length : length numbers ≡ length (way tree.nodes space)
  path-length = ap length g.path ∙ g.kept.whole.numbering.tied.full i g.identifier g.was ∙ ap (λ s. length (way tree.nodes s)) (sym g.home)

  module _ (after : List (Ids ℕ)) (f : AreFreed ids after (way tree.nodes space) numbers) where
    released : drops.IsReleased pid_max tree.nodes ids after (ident_at idents) (ident_at idents1) space
    released =
        drops.released pid_max tree.nodes ids after (ident_at idents) (ident_at idents1) g.kept.whole i (record g.identifier { space = space; numbers = numbers }) g.identifier g.was (g.home, g.path)
        f.bound f.entries g.now g.others

    -- those that are dead then are on its path
    pub dead-around : AreAround tree.nodes after (way tree.nodes space)
    dead-around = drops.around released

    module _ (tree1 : TreeOfSpaces) (s : AreSwept tree tree1 after) where
      -- all that is known holds of what is left
      pub kept-left : IsNumberTable pid_max tree1 after idents1
      kept-left = record {
        whole = drops.whole-swept released tree1.nodes s.nodes s.tree;
        some = s.some;
        listed = s.listed;
        count = f.count ∙ g.kept.count ∙ sym s.count;
      }

      module _ (b : Numbering) (view : numbering_of pid_max tree ids idents ≡ b) where
        pub namespaces-left : (t : ℕ) → namespace_at (numbering_of pid_max tree1 after idents1) t ≡ swept_at (record b { names = map (option_map identifier_of) idents1.slots }) t
        namespaces-left t =
            views.namespace-at (cursor_on after) tree1.nodes t ∙ drops.swept-same pid_max tree after idents1 released.after tree1.nodes s.nodes t
            ∙ swept_from pid_max tree ids after idents idents1 b view f.cursors t

        pub order-left : tree1.order ≡ filter (λ p. is_there (numbering_of pid_max tree1 after idents1) p.1) b.order
        order-left =
            s.order ∙ ap (λ (f : ℕ → Bool). filter (λ p. f p.1) tree.order) (λ i t. sym (views.there_is pid_max tree1 after idents1 t) i)
            ∙ ap (λ b. filter (λ p. is_there (numbering_of pid_max tree1 after idents1) p.1) b.order) view
