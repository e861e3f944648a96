-- A new thread in the model's state.
use Rattle.std.proofs.Common.{◌≡◌, ℕ, ◌==◌, not, List, map, find, is_none, Option, Some, None, refl, sym, ap, ◌∙◌, option_map, unwrap_or}
use Rattle.std.specs.Option.{option_map_or}
use Rattle.pid_types.specs.declared.plain.Row.{Row}
use Rattle.pid_types.specs.declared.plain.Thread.{Thread as ThreadRow}
use Rattle.pid_types.specs.declared.reply.Refusal.{Refusal}
use Rattle.pid_types.specs.declared.reply.Refusal.TheVariants.{Elsewhere, NoCaller, NoNumber}
use Rattle.pid_types.specs.declared.reply.Reply.TheVariants.{Forked}
use Rattle.pid_types.specs.State.{root_name}
use Rattle.pid_types.specs.Names.{path_up, number_or_zero, root_number}
use Rattle.pid_types.specs.Outcome.{Outcome, for_found, refuse_if, refused, unless_found}
use Rattle.pid_types.specs.Threads.{as_thread, caller_of}
use Rattle.pid_types.specs.Fork.{drawn, insert_by, new_name, no_room, with_cursors}
use Rattle.pid_types.specs.Clone.{thread as thread_call, thread_of as new_row_of, threaded, with_thread}
use Rattle.pid_numbers.specs.Numbering.{id_at, moved, namespace_at, path_at, draw_in, thread_identifier}
use Rattle.pids_charge.specs.Charges.{charge_refusal, home_id}
use Rattle.process_threads.specs.declared.Thread.{Thread}
use Rattle.task_tree.specs.declared.Task.{Task}
use Rattle.task_tree.specs.Tree.{task_at}
use Rattle.task_table.specs.Store.{Store, BeginsThread, IsThreaded}
use Rattle.task_table.specs.View.{name_of, name_at, row_of, spaces_of}
use Rattle.task_table.specs.Lawful.{IsLawful}
use Rattle.task_table.specs.Whole.{HasParents}
use Rattle.task_table.proofs.LookUps.{live-there, named}
use Rattle.task_table.proofs.Newborn.{KeepsNamespaces, ids-kept, named_in}
use Rattle.task_table.proofs.Changed.{IsLess-same}
use Rattle.thread_view.specs.declared.Calling.{Calling}
use Rattle.thread_view.specs.Full.{thread_row_of, full_state}
use Rattle.thread_view.specs.Calling.{HasProcesses}
use Rattle.thread_view.proofs.Named.{named-full, swept-full}
use Rattle.thread_view.proofs.Counted.{count-full}
use Rattle.thread_view.proofs.Begun.{kept, rows-kept, threads-inserted, left-kept}
use Rattle.fork_calls.specs.Cloning.{MayClone, thread_there}
use Rattle.fork_calls.proofs.Draws.{IsPlanned}
use Rattle.fork_calls.proofs.Cursors.{IsPlanned-in, drew-in, id-kept, keeps-moved, spaces-moved-in}
use Rattle.fork_calls.proofs.Limits.{limit-in}
use Rattle.fork_calls.proofs.Plans.{room-ok-in, room-full-in}
use Rattle.fork_calls.proofs.Born.{reply-drawn}

module _ (s : Store) (calling : Calling) (task : Task) where
  -- what the call of a thread of the process comes to
  pub thread-is : (n : ℕ) (caller : Row) → caller_of (full_state s) n ≡ Some caller → row_of s calling.process task ≡ as_thread (full_state s) n caller
      → thread_call (full_state s) n ≡ refuse_if (full_state s) (not (task.children_space == (name_at s.numbering calling.process).space)) Elsewhere (thread_there s calling.process task)
  unfolding thread_call
  thread-is n caller found own =
      let after : Row → Outcome = λ r. refuse_if (full_state s) (not (r.children_space == r.name.space)) Elsewhere
      (unless_found (full_state s) (no_room (full_state s) r r.name.space) (λ r. r) (threaded (full_state s) r)) in
      ap (λ o. for_found (full_state s) o NoCaller (λ r. after (as_thread (full_state s) n r))) found ∙ ap after (sym own)

module _ (s : Store) (l : IsLawful s) (w : IsThreaded s.numbering s.threads) where
  -- the state with its threads is planned as the store's
  pub IsPlanned-full : IsPlanned s (full_state s)
  IsPlanned-full = IsPlanned-in s l (full_state s) (named-full s l w (full_state s) refl refl) refl refl

  module _ (calling : Calling) (task : Task) (may : MayClone s calling task) where
    abbrev row : Row
    row = row_of s calling.process task

    there : id_at s.numbering calling.space ≡ Some row.name.space
    there = may.space ∙ ap Some (sym may.own)

    -- where each namespace has a number to give the limits decide
    pub thread-room : find (λ q. is_none (draw_in s.numbering q)) (path_at s.numbering calling.space) ≡ None
        → no_room (full_state s) row row.name.space ≡ charge_refusal s.charges (home_id s.charges task.home)
    thread-room all =
        room-ok-in s l (full_state s) IsPlanned-full refl calling.space row.name.space there row all
        ∙ sym (limit-in s (full_state s) refl (count-full s l w) (home_id s.charges task.home))

    -- and why there can be none
    pub not-threaded : (o : Option Refusal) (r : Refusal) → no_room (full_state s) row row.name.space ≡ o → o ≡ Some r → thread_there s calling.process task ≡ refused (full_state s) r
    not-threaded o r room is = ap (λ x. unless_found (full_state s) x (λ r. r) (threaded (full_state s) row)) (room ∙ is)

    pub thread-full : (q i : ℕ) → find (λ q. is_none (draw_in s.numbering q)) (path_at s.numbering calling.space) ≡ Some q → id_at s.numbering q ≡ Some i
        → thread_there s calling.process task ≡ refused (full_state s) (NoNumber i)
    thread-full q i full id = not-threaded (Some (NoNumber i)) (NoNumber i) (room-full-in s l (full_state s) IsPlanned-full refl calling.space row.name.space there row q i full id) refl

    module _ (s' : Store) (l' : IsLawful s') (w' : IsThreaded s'.numbering s'.threads) (p : HasProcesses s) (kin : HasParents s) (key : ℕ) (numbers : List ℕ)
        (begun : BeginsThread s s' key (record { process = calling.process; children_space = task.children_space; home = task.home }) (thread_identifier calling.space numbers))
        (planned : numbers ≡ map (λ q. unwrap_or (draw_in s.numbering q) 0) (path_at s.numbering calling.space)) where
      abbrev thread : Thread
      thread = record { process = calling.process; children_space = task.children_space; home = task.home }

      pub keeps : KeepsNamespaces s.numbering s'.numbering
      keeps = keeps-moved s.numbering s'.numbering (path_at s.numbering calling.space) numbers begun.namespaces

      drew : numbers ≡ map (drawn (full_state s)) (path_up (spaces_of s.numbering) row.name.space)
      drew = planned ∙ drew-in s l (full_state s) IsPlanned-full calling.space row.name.space there

      cursors : with_cursors (full_state s) (path_up (spaces_of s.numbering) row.name.space) ≡ spaces_of s'.numbering
      cursors = spaces-moved-in s l (full_state s) IsPlanned-full refl s'.numbering keeps calling.space row.name.space there (l.numbering.some calling.space row.name.space there) begun.order
          (λ q. begun.namespaces q ∙ ap (λ ns. option_map (moved (path_at s.numbering calling.space) ns q) (namespace_at s.numbering q)) planned)

      -- it has the name that was drawn
      name-new : name_at s'.numbering key ≡ new_name (full_state s) row.name.space
      name-new =
          ap (λ o. option_map_or (name_of s'.numbering) o root_name) begun.named
          ∙ ap (λ o. named_in (unwrap_or o 0) numbers) (id-kept s.numbering s'.numbering keeps calling.space row.name.space there)
          ∙ ap (named_in row.name.space) drew

      thread-new : thread_row_of s' key thread ≡ new_row_of (full_state s) row
      thread-new =
          let t = live-there (task_at s.tree calling.process) may.live in
          let u = named s l calling.process t.0 t.1 in
          let process = kept s s' l l' w p kin key thread calling.space numbers begun keeps calling.process u.0 u.1 in
          let home = ids-kept s.charges s'.charges task.home begun.home task.home in
          λ i. record { name = name-new i; process = process i; home = home i; children_space = sym may.own i }

      -- the state with the thread
      state-new : full_state s' ≡ (threaded (full_state s) row).state
      state-new = sym (swept-full s'.numbering l'.numbering s' l' w' (IsLess-same s'.numbering l'.numbering)
          (with_thread (full_state s) (new_row_of (full_state s) row) (path_up (full_state s).spaces row.name.space))
          (sym (rows-kept s s' l l' w p kin key thread calling.space numbers begun keeps))
          (ap (λ x. insert_by (λ (t : ThreadRow). root_number t.name) x (full_state s).threads) (sym thread-new) ∙ sym (threads-inserted s s' l l' w p kin key thread calling.space numbers begun keeps))
          (sym (left-kept s s' l l' w p kin key thread calling.space numbers begun keeps))
          cursors (sym begun.home.controls) (sym begun.bound))

      module _ (room : no_room (full_state s) row row.name.space ≡ None) where
        threads_one : thread_there s calling.process task ≡ threaded (full_state s) row
        threads_one = ap (λ x. unless_found (full_state s) x (λ r. r) (threaded (full_state s) row)) room

        pub state-threaded : full_state s' ≡ (thread_there s calling.process task).state
        state-threaded = state-new ∙ sym (ap (λ (o : Outcome). o.state) threads_one)

        -- and the reply
        pub reply-threaded : Forked (number_or_zero (spaces_of s'.numbering) (name_at s'.numbering key) row.name.space) (root_number (name_at s'.numbering key)) ≡ (thread_there s calling.process task).reply
        reply-threaded =
            reply-drawn (full_state s) (path_up (spaces_of s.numbering) row.name.space) (spaces_of s'.numbering) cursors (name_at s'.numbering key) (new_name (full_state s) row.name.space) name-new row.name.space
            ∙ sym (ap (λ (o : Outcome). o.reply) threads_one)

        pub own-id : id_at s'.numbering calling.space ≡ Some row.name.space
        own-id = id-kept s.numbering s'.numbering keeps calling.space row.name.space there
