-- A child in a namespace that stands.
use Rattle.std.proofs.Common.{◌≡◌, ℕ, false, List, map, Some, None, refl, sym, ap, ◌∙◌, option_map, unwrap_or}
use Rattle.pid_types.specs.declared.plain.Life.TheVariants.{Live}
use Rattle.pid_types.specs.declared.reply.Reply.TheVariants.{Forked}
use Rattle.pid_types.specs.Names.{path_up, number_or_zero, root_number}
use Rattle.pid_types.specs.Outcome.{unless_found}
use Rattle.pid_types.specs.Fork.{drawn, child_of, forked, no_room, with_cursors}
use Rattle.pid_numbers.specs.Numbering.{namespace_at, id_at, path_at, draw_in, moved, new_identifier}
use Rattle.task_tree.specs.declared.Task.{Task}
use Rattle.task_tree.specs.Tree.{task_at}
use Rattle.task_table.specs.Store.{Store, HasNoThreads, Begins}
use Rattle.task_table.specs.View.{name_at, row_of, spaces_of, state_of}
use Rattle.task_table.specs.Lawful.{IsLawful}
use Rattle.task_table.specs.Whole.{HasParents}
use Rattle.fork_calls.specs.Outcomes.{forked_into}
use Rattle.task_table.proofs.Newborn.{KeepsNamespaces}
use Rattle.fork_calls.proofs.Born.{state-born, reply-born}
use Rattle.fork_calls.proofs.Cursors.{drew-own, id-kept, keeps-moved, spaces-moved}

module _ (s s' : Store) (l : IsLawful s) (l' : IsLawful s') (alone : HasNoThreads s.threads) (kin : HasParents s) (key from : ℕ) (task caller : Task) (at : task_at s.tree from ≡ Some caller) (space t : ℕ) (numbers : List ℕ)
    (begun : Begins s s' key (Some from) task (new_identifier space numbers))
    (order : s'.numbering.order ≡ s.numbering.order) (now : (q : ℕ) → namespace_at s'.numbering q ≡ option_map (moved (path_at s.numbering space) numbers q) (namespace_at s.numbering q))
    (id : id_at s.numbering space ≡ Some t) (planned : numbers ≡ map (λ q. unwrap_or (draw_in s.numbering q) 0) (path_at s.numbering space))
    (made : task ≡ record { children_space = t; home = caller.home; executed = false; subreaper = false; life = Live })
    (room : no_room (state_of s) (row_of s from caller) t ≡ None) where
  keeps : KeepsNamespaces s.numbering s'.numbering
  keeps = keeps-moved s.numbering s'.numbering (path_at s.numbering space) numbers now

  pub id-after : (q i : ℕ) → id_at s.numbering q ≡ Some i → id_at s'.numbering q ≡ Some i
  id-after = id-kept s.numbering s'.numbering keeps

  drew : numbers ≡ map (drawn (state_of s)) (path_up (spaces_of s.numbering) t)
  drew = planned ∙ drew-own s l alone space t id

  cursors : with_cursors (state_of s) (path_up (spaces_of s.numbering) t) ≡ spaces_of s'.numbering
  cursors = spaces-moved s l alone s'.numbering keeps space t id (l.numbering.some space t id) order
      (λ q. now q ∙ ap (λ ns. option_map (moved (path_at s.numbering space) ns q) (namespace_at s.numbering q)) planned)

  pub into-state : state_of s' ≡ (forked_into (state_of s) (state_of s) (row_of s from caller) t).state
  into-state = sym (ap (λ o. (unless_found (state_of s) o (λ r. r) (forked (state_of s) (row_of s from caller) t)).state) room
      ∙ state-born s s' l l' kin key from task space numbers begun keeps caller at t (id-after space t id) (state_of s) drew made alone refl refl refl refl refl cursors)

  pub into-reply : (i : ℕ) → i ≡ (row_of s from caller).name.space
      → Forked (number_or_zero (spaces_of s'.numbering) (name_at s'.numbering key) i) (root_number (name_at s'.numbering key)) ≡ (forked_into (state_of s) (state_of s) (row_of s from caller) t).reply
  into-reply i own =
      reply-born s s' l l' kin key from task space numbers begun keeps caller at t (id-after space t id) (state_of s) drew made cursors i
      ∙ ap (λ j. Forked (number_or_zero (spaces_of s.numbering) (child_of (state_of s) (row_of s from caller) t).name j) (root_number (child_of (state_of s) (row_of s from caller) t).name)) own
      ∙ sym (ap (λ o. (unless_found (state_of s) o (λ r. r) (forked (state_of s) (row_of s from caller) t)).reply) room)
