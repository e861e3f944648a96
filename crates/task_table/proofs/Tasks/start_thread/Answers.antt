-- The drawn key is the one that room was made for; the parts agree again when the thread stands at it and is charged
use Rattle.std.proofs.Common.{◌≡◌, ◌+◌, ℕ, [], None, Some, false, is_some, option_map, refl, sym, ap, subst, arith, ◌∙◌}
use Rattle.std.proofs.lemmas.List.Sums.{count_by-le-length}
use Rattle.std.specs.Option.{option_map_or}
use Rattle.pids_charge.specs.Charges.{Home}
use Rattle.std.specs.Prelude.{slice_index_or, ◌≢◌}
use Rattle.std.proofs.lemmas.List.{get_or-set_same, get_or-set_other}
use Rattle.pid_numbers.specs.Numbering.{Numbering, identifier_at, is_thread, namespace_at, path_at, thread_identifier}
use Rattle.task_table.specs.Store.{Store, IsStore, IsThreaded, BeginsThread, bare, one_if, is_homed}
use Rattle.task_table.proofs.Births as births
use Rattle.task_table.proofs.Housed as housed
use Rattle.task_table.proofs.ThreadChanges as threads
use Rattle.task_table.proofs.Tasks.start_thread.Goals as goal

-- the drawn key is the one that room was made for
fresh : (b : Numbering) (drawn key : ℕ) → drawn ≡ b.next → key ≡ b.next → identifier_at b drawn ≡ None → identifier_at b key ≡ None
fresh b drawn key first second none = ap (identifier_at b) (second ∙ sym first) ∙ none

others : (c : goal.After-charge) → (j : ℕ) → j ≢ c.in_ok-key.key → identifier_at c.draw_thread.new.self j ≡ identifier_at c.self.inside.numbers j
others c j differs = c.in_ok-draw_thread.ensures.others j (λ e. differs (e ∙ c.in_ok-draw_thread.ensures.key ∙ sym c.in_ok-key.ensures.ok.0))

named : (c : goal.After-charge) → identifier_at c.draw_thread.new.self c.in_ok-key.key ≡ Some (thread_identifier c.args.space c.args.numbers.now)
named c = ap (identifier_at c.draw_thread.new.self) (c.in_ok-key.ensures.ok.0 ∙ sym c.in_ok-draw_thread.ensures.key) ∙ c.in_ok-draw_thread.ensures.named

pub room_for_thread-requires-clause-process : goal.room_for_thread-requires-clause-process
room_for_thread-requires-clause-process c =
    let low = rw (← c.self.view_is) at c.requires.process in
    omega (arith, low, c.laws-2.ensures.few)

pub draw_thread-requires : goal.draw_thread-requires
draw_thread-requires c = let p = rw (← c.self.view_is) at c.requires.planned in record { there = p.there; all = p.all; planned = p.planned }

pub enter-requires-clause-vacant : goal.enter-requires-clause-vacant
enter-requires-clause-vacant c =
    threads.vacant c.self.inside.numbers c.self.inside.threads c.room_for_thread.new.threads c.self.invariant.threaded c.room_for_thread.ensures.kept c.in_ok-key.key
    (fresh c.self.inside.numbers c.in_ok-draw_thread.field-0 c.in_ok-key.key c.in_ok-draw_thread.ensures.key c.in_ok-key.ensures.ok.0 c.in_ok-draw_thread.ensures.fresh)

pub charge-requires-clause-few : goal.charge-requires-clause-few
charge-requires-clause-few c =
    let all = c.self.invariant.agree.all in
    omega (arith, all, count_by-le-length is_some c.self.inside.tree.tasks, c.laws-2.ensures.few, count_by-le-length is_some c.self.inside.threads.threads, c.laws-3.ensures.few)

pub invariant_of-self : goal.invariant_of-self
invariant_of-self c =
    let old : Store = record { numbering = c.self.inside.numbers; tree = c.self.inside.tree; members = c.self.inside.members; charges = c.self.inside.controls; threads = c.self.inside.threads } in
    record {
      agree = threads.roomier old c.room_for_thread.new.threads c.self.invariant.agree c.room_for_thread.ensures.kept;
      threaded = threads.roomier-threaded c.self.inside.numbers c.self.inside.threads c.room_for_thread.new.threads c.self.invariant.threaded c.room_for_thread.ensures.kept;
      housed = c.self.invariant.housed;
    }

pub invariant_of-self-in_err-draw_thread : goal.invariant_of-self-in_err-draw_thread
invariant_of-self-in_err-draw_thread c =
    let old : Store = record { numbering = c.self.inside.numbers; tree = c.self.inside.tree; members = c.self.inside.members; charges = c.self.inside.controls; threads = c.self.inside.threads } in
    let same : c.draw_thread.new.self ≡ c.self.inside.numbers = c.in_err-draw_thread.ensures.err in
    record {
      agree =
          subst (λ (b : Numbering). IsStore (record old { numbering = b; threads = c.room_for_thread.new.threads })) (sym same)
          (threads.roomier old c.room_for_thread.new.threads c.self.invariant.agree c.room_for_thread.ensures.kept);
      threaded =
          subst (λ (b : Numbering). IsThreaded b c.room_for_thread.new.threads) (sym same)
          (threads.roomier-threaded c.self.inside.numbers c.self.inside.threads c.room_for_thread.new.threads c.self.invariant.threaded c.room_for_thread.ensures.kept);
      housed = c.self.invariant.housed;
    }

pub invariant_of-self-2 : goal.invariant_of-self-2
invariant_of-self-2 c =
    let new : identifier_at c.self.inside.numbers c.in_ok-key.key ≡ None =
    fresh c.self.inside.numbers c.in_ok-draw_thread.field-0 c.in_ok-key.key c.in_ok-draw_thread.ensures.key c.in_ok-key.ensures.ok.0 c.in_ok-draw_thread.ensures.fresh in
    let vacant = threads.vacant c.self.inside.numbers c.self.inside.threads c.room_for_thread.new.threads c.self.invariant.threaded c.room_for_thread.ensures.kept c.in_ok-key.key new in
    let old : Store = record { numbering = c.self.inside.numbers; tree = c.self.inside.tree; members = c.self.inside.members; charges = c.self.inside.controls; threads = c.self.inside.threads } in
    let roomy : Store = record old { threads = c.room_for_thread.new.threads } in
    let up = rw (← c.self.view_is) at c.requires.home in
    let w = threads.roomier old c.room_for_thread.new.threads c.self.invariant.agree c.room_for_thread.ensures.kept in
    let room = c.in_ok-room_for_thread.ensures.key in
    let counts = threads.came c.self.inside.controls c.charge.new.self c.args.thread c.charge.ensures.home up in
    let uses = threads.unused-came c.self.inside.numbers c.draw_thread.new.self c.in_ok-key.key c.args.space c.args.numbers.now new (named c) (others c) in
    let parents = rw (← c.self.view_is) at c.requires.parents in
    record {
      agree =
          threads.changed roomy c.draw_thread.new.self c.charge.new.self c.enter.new.self w c.in_ok-key.key (Some c.args.thread) uses c.enter.ensures.threads c.enter.ensures.left room
          (λ h. let a = (counts h).0 in let b = ap (λ o. one_if (is_homed h o)) vacant in omega (arith, a, b)) (λ h. (counts h).1)
          (let a = c.charge.ensures.tasks in let b = ap (λ o. one_if (is_some o)) vacant in omega (arith, a, b))
          (births.ranks-born c.self.inside.numbers c.draw_thread.new.self c.self.inside.tree c.self.inside.tree c.in_ok-key.key new
          (λ j differs. ap (option_map bare) (others c j differs))
          (λ p long. ap (λ o. option_map_or (λ t. t.path) o []) (c.in_ok-draw_thread.ensures.namespaces p) ∙ births.path_moved (path_at c.self.inside.numbers c.args.space) c.args.numbers.now p (namespace_at c.self.inside.numbers p))
          c.laws.ensures.full (λ k. refl)
          (λ k p r e. births.ranked-there old c.self.invariant.agree c.laws-2.ensures.waiting k p r e parents) c.self.invariant.agree.ranks);
      threaded =
          threads.changed-threaded c.self.inside.numbers c.draw_thread.new.self c.room_for_thread.new.threads c.enter.new.self
          (threads.roomier-threaded c.self.inside.numbers c.self.inside.threads c.room_for_thread.new.threads c.self.invariant.threaded c.room_for_thread.ensures.kept)
          c.in_ok-key.key (Some c.args.thread) c.enter.ensures.threads room (others c) (ap is_thread (named c));
      housed =
          housed.kept-tasks c.self.inside.tree.tasks c.self.inside.controls c.charge.new.self c.self.inside.residents c.self.invariant.housed
          (housed.less-mapped c.self.inside.controls c.charge.new.self c.args.thread.home (λ (h : Home). record h { live = h.live + 1 }) (λ h e. e) c.charge.ensures.home);
    }

pub returns-clause-begun : goal.returns-clause-begun
returns-clause-begun c =
    let new : identifier_at c.self.inside.numbers c.in_ok-key.key ≡ None =
    fresh c.self.inside.numbers c.in_ok-draw_thread.field-0 c.in_ok-key.key c.in_ok-draw_thread.ensures.key c.in_ok-key.ensures.ok.0 c.in_ok-draw_thread.ensures.fresh in
    let vacant = threads.vacant c.self.inside.numbers c.self.inside.threads c.room_for_thread.new.threads c.self.invariant.threaded c.room_for_thread.ensures.kept c.in_ok-key.key new in
    let keeps = c.room_for_thread.ensures.kept in
    let room = c.in_ok-room_for_thread.ensures.key in
    subst (λ (s : Store). BeginsThread s (record { numbering = c.draw_thread.new.self; tree = c.self.inside.tree; members = c.self.inside.members; charges = c.charge.new.self; threads = c.enter.new.self }) c.in_ok-key.key c.args.thread
    (thread_identifier c.args.space c.args.numbers.now)) c.self.view_is (record {
      fresh = (sym (keeps.threads c.in_ok-key.key) ∙ vacant, new);
      named = named c;
      names = others c;
      namespaces = c.in_ok-draw_thread.ensures.namespaces;
      order = c.draw_thread.ensures.order;
      bound = c.draw_thread.ensures.pid_max;
      begun = ap (λ l. slice_index_or l c.in_ok-key.key None) c.enter.ensures.threads ∙ get_or-set_same c.room_for_thread.new.threads.threads c.in_ok-key.key (Some c.args.thread) None room;
      threads = λ k differs.
          ap (λ l. slice_index_or l k None) c.enter.ensures.threads ∙ get_or-set_other c.room_for_thread.new.threads.threads c.in_ok-key.key k (Some c.args.thread) None differs ∙ keeps.threads k;
      left = λ p. ap (λ l. slice_index_or l p false) c.enter.ensures.left ∙ keeps.left p;
      home = c.charge.ensures.home;
      tree = refl;
      members = refl;
    })
