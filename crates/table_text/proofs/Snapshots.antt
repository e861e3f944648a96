-- Snapshots of sound states: their texts are read back.
use Rattle.std.proofs.Common.{◌≡◌, ◌≢◌, inl, inr, ℕ, ◌<◌, List, [], ◌∷◌, ◌++◌, length, map, Option, Some, None, IfSome, Result, Ok, Err, IfOk, IfErr, refl, sym, ap, ◌∙◌, subst, arith}
use Rattle.pid_types.specs.declared.plain.Name.{Name}
use Rattle.pid_types.specs.declared.plain.Row.{Row}
use Rattle.pid_types.specs.declared.plain.Space.{Space}
use Rattle.pid_types.specs.declared.plain.Plain.{Plain}
use Rattle.pid_types.specs.Membership.{IsIn}
use Rattle.pid_types.specs.State.{State}
use Rattle.pid_types.specs.Chains.{climb}
use Rattle.pid_types.specs.Names.{path_up, names_in_use}
use Rattle.pid_types.specs.Sound.{IsSound, IsWellNumbered}
use Rattle.pid_types.specs.Shown.{Shows}
use Rattle.table_text.specs.Texts.{text_of, state_shown}
use Rattle.table_text.specs.Ranges.{IsWord, Each, IsStateOfWords}
use Rattle.table_text.specs.Reading.{IsNumbered, HasNumbers, IsHeldState, IsNoText, saved_state}
use Rattle.table_text.specs.declared.read.Saved.{Saved}
use Rattle.table_text.specs.declared.fault.LoadFault.{LoadFault}
use Rattle.table_text.specs.declared.fault.LoadFault.TheVariants.{NoMemory, BadLine, WrongDigest}
use Rattle.table_text.proofs.Told.{text_told, state_in-shown}
use Rattle.table_text.proofs.Missed.{word_of_small}
use Rattle.table_text.proofs.Whole.{words_of_row, words_of_space, words_of_control}

-- the names that a task uses
in_use : (rows : List Row) (r : Row) → IsIn r rows → IsIn r.name (names_in_use rows) × IsIn r.group (names_in_use rows) × IsIn r.session (names_in_use rows)
in_use [] r there = absurd there
in_use (q ∷ rows) r (inl same) =
    (inl (ap (λ (x : Row). x.name) same), inr (inl (ap (λ (x : Row). x.group) same)), inr (inr (inl (ap (λ (x : Row). x.session) same))))
in_use (q ∷ rows) r (inr there) = let below = in_use rows r there in (inr (inr (inr below.0)), inr (inr (inr below.1)), inr (inr (inr below.2)))

behind : (a : Name) (ahead names : List Name) → IsIn a names → IsIn a (ahead ++ names)
behind a [] names there = there
behind a (x ∷ ahead) names there = inr (behind a ahead names there)

-- a path has at least the namespace itself
some_path : (spaces : List Space) (id : ℕ) → 0 < length (path_up spaces id)
unfolding path_up climb
some_path spaces id = omega arith

numbered : (spaces : List Space) (pid_max : ℕ) (name : Name) → IsWellNumbered spaces pid_max name → IsNumbered name
numbered spaces pid_max name well = let long = well.one_each in omega (arith, long, some_path spaces name.space)

-- each identifier of a sound state's tasks has a number
pub has_numbers : (state : State) → IsSound state → Each HasNumbers state.rows
has_numbers state sound r there =
    let coherent = sound.coherent in
    let used = in_use state.rows r there in
    record {
      name = well r.name used.0;
      parent = of_parent r.parent refl;
      group = well r.group used.1;
      session = well r.session used.2;
    }
  where
    well : (name : Name) → IsIn name (names_in_use state.rows) → IsNumbered name
    well name used = numbered state.spaces state.pid_max name (sound.coherent.numbered name (behind name (map (λ t. t.name) state.threads) (names_in_use state.rows) used))

    of_parent : (p : Option Name) → r.parent ≡ p → IfSome p IsNumbered
    of_parent None is = tt
    of_parent (Some parent) is =
        let lives = (sound.coherent.parents r there).good parent is in
        subst IsNumbered lives.lives.2 (well lives.lives.0.name (in_use state.rows lives.lives.0 lives.lives.1).0)

pub words_of_state : (state : State) → IsHeldState state → IsStateOfWords state
words_of_state state held = record {
  rows = λ r there. words_of_row r (held.rows r there);
  threads = held.threads;
  left = held.left;
  spaces = λ s there. words_of_space s (held.spaces s there);
  controls = λ g there. words_of_control g (held.controls g there);
  pid_max = word_of_small state.pid_max held.pid_max;
}

-- a snapshot of a sound state
module _ (state : State) (sound : IsSound state) (plain : Plain) (shows : Shows state plain)
    (fits : Each HasNumbers plain.rows.items → IsHeldState (state_shown plain)) where
  held : IsHeldState (state_shown plain)
  held = fits (subst (λ (rows : List Row). Each HasNumbers rows) (sym shows.rows) (has_numbers state sound))

  module _ (stamp : ℕ) (word : IsWord stamp) (text : List ℕ) (is : text ≡ text_of stamp (state_shown plain)) where
    -- has the state and the stamp that are read of its text
    pub is_read_back : (r : Result Saved LoadFault) → IfOk r (λ saved. text ≡ text_of saved.stamp (saved_state saved))
        → IfOk r (λ saved. IsWord saved.stamp × IsStateOfWords (saved_state saved)) → IfOk r (λ saved. (saved.stamp ≡ stamp) × (saved_state saved ≡ state))
    is_read_back (Ok saved) same words =
        let told = text_told saved.stamp stamp (saved_state saved) (state_shown plain) words.0 word words.1 (words_of_state (state_shown plain) held) (sym same ∙ is) in
        (told.0, told.1 ∙ state_in-shown state plain shows)
    is_read_back (Err fault) same words = tt

    -- and only want of memory keeps it from being read
    pub no_fault : (r : Result Saved LoadFault) → IfErr r (λ fault. fault ≢ NoMemory → IsNoText text) → IfErr r (λ fault. fault ≡ NoMemory)
    no_fault (Ok saved) refused = tt
    no_fault (Err NoMemory) refused = refl
    no_fault (Err (BadLine line)) refused = absurd (refused (λ same. cc same) stamp (state_shown plain) word held is)
    no_fault (Err (WrongDigest line)) refused = absurd (refused (λ same. cc same) stamp (state_shown plain) word held is)
