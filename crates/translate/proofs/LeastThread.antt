-- The next number of a thread, in the model and in a store.
use Rattle.std.proofs.Common.{◌≡◌, ℕ, ◌≤◌, nat_le, filter, Option, Some, None, is_some, sym, ap, ◌∙◌, arith}
use Rattle.std.specs.Prelude.{filter_map}
use Rattle.pid_types.proofs.General.{held}
use Rattle.pid_types.specs.declared.plain.Thread.{Thread as ThreadRow}
use Rattle.pid_types.specs.Chains.{least_of}
use Rattle.pid_types.specs.Membership.{IsIn}
use Rattle.pid_types.specs.Names.{number}
use Rattle.model_laws.proofs.Lists.{IsIn-filter, IsIn-from_filter, IsIn-filter_map, IsIn-from_filter_map}
use Rattle.pid_numbers.specs.Numbering.{id_at, IsNumberOfThread, IsNextThread}
use Rattle.process_threads.specs.Threads.{thread_with}
use Rattle.task_table.specs.Store.{Store, IsThreaded}
use Rattle.task_table.specs.Lawful.{IsLawful}
use Rattle.task_table.proofs.Keys.{number-is_key}
use Rattle.thread_view.specs.Full.{thread_row_of, full_state}
use Rattle.thread_view.proofs.Threads.{thread-named, in-threads, threads-in}
use Rattle.translate.proofs.Least.{least-some, least-none}

module _ (s : Store) (l : IsLawful s) (w : IsThreaded s.numbering s.threads) (sp i : ℕ) (at : id_at s.numbering sp ≡ Some i) (from : ℕ) where
  abbrev seen_as : ThreadRow → Option ℕ
  seen_as t = number (full_state s).spaces t.name i

  -- a thread's number is one of the list
  listed : (n : ℕ) → from ≤ n → IsNumberOfThread s.numbering sp n → IsIn n (filter (nat_le from) (filter_map seen_as (full_state s).threads))
  listed n above u =
      let t = held (thread_with s.threads u.key) (sym (w.held u.key) ∙ u.thread) in
      let v = thread-named s l w u.key t.0 t.1 in
      IsIn-filter (nat_le from) n (filter_map seen_as (full_state s).threads)
      (IsIn-filter_map seen_as (thread_row_of s u.key t.0) n (full_state s).threads (threads-in s l w u.key t.0 t.1)
      (number-is_key s.numbering l.numbering sp i u.key v.0 at v.1 ∙ u.has))
      (grind (arith, above))

  -- and back
  of_thread : (n : ℕ) → IsIn n (filter (nat_le from) (filter_map seen_as (full_state s).threads)) → (from ≤ n) × IsNumberOfThread s.numbering sp n
  of_thread n h =
      let f = IsIn-from_filter (nat_le from) n (filter_map seen_as (full_state s).threads) h in
      let r = IsIn-from_filter_map seen_as n (full_state s).threads f.0 in
      let t = in-threads s l w r.0 r.1 in
      let v = thread-named s l w t.0 t.1 t.2 in (
        grind (arith, f.1),
        record {
          key = t.0;
          has = sym (number-is_key s.numbering l.numbering sp i t.0 v.0 at v.1) ∙ ap seen_as (sym t.3) ∙ r.2;
          thread = w.held t.0 ∙ ap is_some t.2;
        },
      )

  -- the next one
  pub next-thread-is : (result : Option ℕ) → IsNextThread s.numbering sp from result → least_of (filter (nat_le from) (filter_map seen_as (full_state s).threads)) ≡ result
  next-thread-is None none = least-none (filter (nat_le from) (filter_map seen_as (full_state s).threads)) (λ m h. let f = of_thread m h in none m f.0 f.1)
  next-thread-is (Some n) (above, u, least) =
      least-some (filter (nat_le from) (filter_map seen_as (full_state s).threads)) n (listed n above u) (λ m h. let f = of_thread m h in least m f.0 f.1)
