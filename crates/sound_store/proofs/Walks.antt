-- A walk over the tasks by their keys meets each.
use Rattle.std.proofs.Common.{◌≡◌, ℕ, ◌<◌, ◌≤◌, true, length, Some, None, is_some, refl, sym, ap, ◌∙◌, arith, option_map}
use Rattle.std.specs.Option.{option_map_or}
use Rattle.pid_numbers.specs.Numbering.{Identifier, identifier_at, number_of}
use Rattle.task_tree.specs.Tree.{task_at}
use Rattle.task_table.specs.declared.view.Found.{Found}
use Rattle.task_table.specs.Store.{Store}
use Rattle.task_table.proofs.Changes.{in_range}
use Rattle.sound_store.specs.Tasks.{IsTask, is_good_task, IsGoodAt, AllTasksPass}

module _ (s : Store) where
  -- what was found at one key is one
  found-one : (f g : Found) → IsTask s f → IsTask s g → g.key ≡ f.key → g ≡ f
  found-one f g hf hg same = λ i. record { key = same i; space = space i; task = task i }
    where
      task : g.task ≡ f.task
      task = let z : Some g.task ≡ Some f.task = sym hg.there ∙ ap (task_at s.tree) same ∙ hf.there in ap (λ o. option_map_or (λ t. t) o g.task) z

      space : g.space ≡ f.space
      space =
          let z : Some g.space ≡ Some f.space = sym hg.own ∙ ap (λ k. option_map (λ (u : Identifier). u.space) (identifier_at s.numbering k)) same ∙ hf.own in
          ap (λ o. option_map_or (λ n. n) o g.space) z

  -- what the task with the key passes, whoever is found at the key does
  pub one-good : (key n : ℕ) (f : Found) → f.key ≡ key → IsTask s f → number_of s.numbering f.key 0 ≡ Some n → is_good_task s n f ≡ true → IsGoodAt s key
  one-good key n f on h at good m g hg atg same =
      let keys : g.key ≡ f.key = same ∙ sym on in
      let z : Some m ≡ Some n = sym atg ∙ ap (λ k. number_of s.numbering k 0) keys ∙ at in
      ap (λ k. is_good_task s k g) (ap (λ o. option_map_or (λ x. x) o m) z) ∙ ap (is_good_task s n) (found-one f g h hg keys) ∙ good

  pub none-good : (key : ℕ) → task_at s.tree key ≡ None → IsGoodAt s key
  none-good key none m g hg at same = absurd (let z : None ≡ Some g.task = sym none ∙ ap (task_at s.tree) (sym same) ∙ hg.there in cc)

  -- each key is one that there is room for
  pub all-good : (most : ℕ) → length s.tree.tasks ≤ most → ((k : ℕ) → k < most → IsGoodAt s k) → AllTasksPass s
  all-good most all each n f h at = (let room = in_range s.tree.tasks f.key (ap is_some h.there) in each f.key (omega (arith, room, all)) n f h at refl)
