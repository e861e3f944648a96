use Rattle.std.proofs.Common.{◌≡◌, ◌∙◌, ℕ, suc, arith, ◌==◌, Bool, true, false, not, nat_lt, List, [], ◌∷◌, length, Option, Some, None, is_some, refl, sym, ap, subst, option_map}
use Rattle.std.specs.Iterator.{YieldsFirst}
use Rattle.pid_types.specs.Threads.{running}
use Rattle.process_threads.specs.Threads.{left_at, thread_process, processes_of}
use Rattle.process_threads.specs.declared.Thread.{Thread}
use Rattle.member_lists.specs.Owners.{AreMembers}
use Rattle.task_table.specs.Store.{Store}
use Rattle.task_table.specs.View.{row_of}
use Rattle.task_table.proofs.Drawn.{some_of}
use Rattle.thread_view.specs.Full.{full_state}
use Rattle.thread_view.specs.Calling.{IsBy}
use Rattle.thread_ends.proofs.Running.{first-alone, first-beside, told-by}
use Rattle.thread_ends.proofs.runs_beside.Goals as goal

pub returns-then-not-has_left-clause-told : goal.returns-then-not-has_left-clause-told
returns-then-not-has_left-clause-told c n row by found =
    subst (λ r. (running (full_state s) r == 1) ≡ not c.has_thread.result) (some_of (row_of s process by.task) row (sym by.row ∙ found)) (go c.has_thread.result refl)
  where
    s : Store
    s = c.args.store.now

    process : ℕ
    process = c.args.calling.now.process

    stays : left_at s.threads process ≡ false
    stays = ap (λ t. left_at t process) (sym c.threads-2.ensures) ∙ sym c.has_left.ensures ∙ c.if-not-has_left.true

    go : (b : Bool) → c.has_thread.result ≡ b → (running (full_state s) (row_of s process by.task) == 1) ≡ not c.has_thread.result
    go false is =
        first-alone s c.laws.ensures c.thread_laws.ensures c.requires.processes process by.task by.there stays
        (λ k e. c.has_thread.ensures.none is k (ap (λ t. thread_process t k) c.threads-then-not-has_left.ensures ∙ e)) ∙ sym (ap not is)
    go true is =
        let t = c.has_thread.ensures.some is in
        first-beside s c.laws.ensures c.thread_laws.ensures c.requires.processes process by.task by.there stays t.0
        (ap (λ x. thread_process x t.0) (sym c.threads-then-not-has_left.ensures) ∙ t.1) ∙ sym (ap not is)

-- another than the first one calls, as that has left
caller_of_process : (s : Store) (n process : ℕ) (o : Option ℕ) → IsBy s n process o → left_at s.threads process ≡ true → (k : ℕ) × (thread_process s.threads k ≡ Some process)
caller_of_process s n process None by left = absurd (let z : false ≡ true = sym by.1 ∙ left in cc)
caller_of_process s n process (Some k) by left = (k, ap (option_map (λ (t : Thread). t.process)) by.1 ∙ ap Some by.2)

-- whether there is a second one
second : (keys rest last : List ℕ) (a b : Option ℕ) → YieldsFirst (λ (xs : List ℕ). xs) keys a rest → YieldsFirst (λ (xs : List ℕ). xs) rest b last → is_some b ≡ nat_lt 1 (length keys)
second keys rest last None None (e, f) next = ap (λ xs. nat_lt 1 (length xs)) (sym e)
second keys rest last None (Some y) (e, f) next = absurd (let z : [] ≡ y ∷ last = sym f ∙ next in cc)
second keys rest last (Some x) None first (e, f) = ap (λ xs. nat_lt 1 (length xs)) (sym (first ∙ ap (λ xs. x ∷ xs) e))
second keys rest last (Some x) (Some y) first next = more (length last) ∙ ap (λ xs. nat_lt 1 (length xs)) (sym (first ∙ ap (λ xs. x ∷ xs) next))
  where
    more : (m : ℕ) → true ≡ nat_lt 1 (suc (suc m))
    more m = grind arith

pub returns-clause-told : goal.returns-clause-told
returns-clause-told c n row by found =
    let s = c.args.store.now in
    let process = c.args.calling.now.process in
    let left : left_at s.threads process ≡ true = ap (λ t. left_at t process) (sym c.threads-2.ensures) ∙ sym c.has_left.ensures ∙ c.if-not-has_left.false in
    let k = caller_of_process s n process c.args.calling.now.thread by.thread left in
    subst (λ r. (running (full_state s) r == 1) ≡ not c.is_some.result) (some_of (row_of s process by.task) row (sym by.row ∙ found))
    (told-by s c.laws.ensures c.thread_laws.ensures c.requires.processes process by.task by.there left c.requires.sound.coherent.threads_rise k.0 k.1 c.members-others.result
    (subst (λ t. AreMembers (processes_of t) process c.members-others.result) c.threads-3.ensures c.members-others.ensures) c.is_some.result
    (c.is_some.ensures ∙ second c.members-others.result c.next.new.self c.next-2.new.self c.next.result c.next-2.result c.next.ensures.steps c.next-2.ensures.steps))
