-- The reply that a fork would get.
use Rattle.std.proofs.Common.{◌≡◌, ℕ, ◌-◌, ◌<◌, List, length, map, reverse, Option, Some, None, refl, sym, ap, ◌∙◌, arith, unwrap_or, inl, inr}
use Rattle.std.specs.Prelude.{slice_index}
use Rattle.std.proofs.lemmas.List.{get_or-reverse}
use Rattle.pid_types.specs.Membership.{IsIn}
use Rattle.pid_types.specs.declared.plain.Row.{Row}
use Rattle.pid_types.specs.declared.reply.Refusal.{Refusal}
use Rattle.pid_types.specs.declared.reply.Reply.TheVariants.{Forked}
use Rattle.pid_types.specs.State.{State}
use Rattle.pid_types.specs.Names.{path_up, number_or_zero, root_number}
use Rattle.pid_types.specs.Chains.{climb}
use Rattle.pid_types.specs.Outcome.{unless_found}
use Rattle.pid_types.specs.Fork.{drawn, child_of, forked, no_room}
use Rattle.model_laws.proofs.Inserts.{number-new_name_at}
use Rattle.pid_numbers.specs.Numbering.{id_at, draw_in}
use Rattle.task_tree.specs.declared.Task.{Task}
use Rattle.task_tree.specs.Tree.{task_at}
use Rattle.task_table.specs.Store.{Store}
use Rattle.task_table.specs.View.{row_of, spaces_of}
use Rattle.task_table.specs.Lawful.{IsLawful}
use Rattle.task_table.specs.Whole.{IsWhole}
use Rattle.task_table.proofs.Keys.{space_at-key}
use Rattle.task_table.proofs.LookUps.{rows-in}
use Rattle.fork_calls.specs.Outcomes.{forked_into, planned_reply}
use Rattle.fork_calls.proofs.Draws.{IsPlanned, draw-key}

-- the namespace of a task is on the path of the one for its children, where that is there
pub own-on_path : (s : Store) (l : IsLawful s) → IsWhole s → (key : ℕ) (task : Task) → task_at s.tree key ≡ Some task → (space : ℕ) → id_at s.numbering space ≡ Some task.children_space
    → IsIn (row_of s key task).name.space (path_up (spaces_of s.numbering) task.children_space)
own-on_path s l w key task at space id = elim (w.sound.coherent.children (row_of s key task) (rows-in s l key task at)) [
  | inl none ↦ (let z = sym none ∙ space_at-key s.numbering l.numbering space task.children_space id in absurd (cc))
  | inr on ↦ on
]

-- a namespace is on its own path
pub on-own_path : (spaces : _) (p : ℕ) → IsIn p (path_up spaces p)
unfolding path_up climb
on-own_path spaces p = inl refl

module _ (s : Store) (l : IsLawful s) (planned : State) (is : IsPlanned s planned) (caller : Row) (t own : ℕ) (id : id_at s.numbering own ≡ Some caller.name.space)
    (on : IsIn caller.name.space (path_up planned.spaces t)) (numbers : List ℕ) (drew : numbers ≡ map (drawn planned) (path_up planned.spaces t)) (some : 0 < length numbers) where
  -- the child's number to the caller is what the caller's namespace gives
  child : unwrap_or (draw_in s.numbering own) 0 ≡ number_or_zero planned.spaces (child_of planned caller t).name caller.name.space
  unfolding drawn
  child = ap (λ o. unwrap_or o 0) (sym (draw-key s l planned is own caller.name.space id)) ∙ sym (ap (λ o. unwrap_or o 0) (number-new_name_at planned t caller.name.space on))

  -- its number in the root is the outermost
  root : slice_index numbers (length numbers - 1) ≡ root_number (child_of planned caller t).name
  root =
      let last : length numbers - 1 ≡ length numbers - 1 - 0 = omega arith in
      ap (slice_index numbers) last ∙ sym (get_or-reverse numbers 0 0 some) ∙ ap (λ ns. slice_index (reverse ns) 0) drew

  -- so the reply is the model's
  pub would-get : (state : State) (refusal : Option Refusal) → no_room planned caller t ≡ refusal
      → planned_reply refusal (unwrap_or (draw_in s.numbering own) 0) (slice_index numbers (length numbers - 1)) ≡ (forked_into state planned caller t).reply
  would-get state refusal room =
      both refusal ∙ sym (ap (λ o. (unless_found state o (λ r. r) (forked planned caller t)).reply) room)
    where
      both : (o : Option Refusal) → planned_reply o (unwrap_or (draw_in s.numbering own) 0) (slice_index numbers (length numbers - 1))
          ≡ (unless_found state o (λ r. r) (forked planned caller t)).reply
      both None = λ i. Forked (child i) (root i)
      both (Some r) = refl
