-- Lists of lines, and whole texts: what does not stand where a reader gives up, and what stands behind what is read.
use Rattle.std.proofs.Common.{◌≡◌, inl, inr, ℕ, ◌≤◌, List, [], ◌∷◌, ◌++◌, length, take, drop, sym, ap, ◌∙◌, subst, arith, lit<, append_assoc, take-append-drop}
use Rattle.std.specs.List.{flat_map}
use Rattle.std.proofs.lemmas.List.{append_cancel_right}
use Rattle.pid_types.specs.declared.plain.Row.{Row}
use Rattle.pid_types.specs.declared.plain.Space.{Space}
use Rattle.pid_types.specs.declared.plain.Control.{Control}
use Rattle.pid_types.specs.Membership.{IsIn}
use Rattle.pid_types.specs.State.{State}
use Rattle.pid_script.specs.Lists.{space_line}
use Rattle.table_text.specs.Texts.{task_text_line, control_text_line, head_line, dump_text, end_line, text_of}
use Rattle.table_text.specs.Ranges.{IsWord, Each, IsRowOfWords, IsSpaceOfWords, IsControlOfWords}
use Rattle.table_text.specs.Reading.{IsRead, Lacks, LacksLine, LacksLines, IsNotAt, IsHeldRow, IsHeldSpace, IsHeldControl, IsHeldState}
use Rattle.table_text.proofs.Lines.{BeginsWith, lines_left, task_told, space_told, control_told, head_told, task_begins, space_begins, control_begins, not_at}
use Rattle.table_text.proofs.Told.{text_flat, end_front, controls_front, spaces_front}
use Rattle.table_text.proofs.Scanned.{dropped}
use Rattle.table_text.proofs.Missed.{word_of_small, words_of_small}
use Rattle.table_text.proofs.Named.{is_in_front, words_of_name, words_of_parent}
use Rattle.table_text.proofs.Tasks.{words_of_life}

pub words_of_row : (r : Row) → IsHeldRow r → IsRowOfWords r
words_of_row r held = record {
  name = words_of_name r.name held.name;
  parent = words_of_parent r.parent held.parent;
  group = words_of_name r.group held.group;
  session = words_of_name r.session held.session;
  life = words_of_life r.life held.life;
  home = held.home;
  children_space = held.children_space;
}

pub words_of_space : (s : Space) → IsHeldSpace s → IsSpaceOfWords s
words_of_space s held = record { id = held.id; parent = held.parent; cursor = word_of_small s.cursor held.cursor }

pub words_of_control : (g : Control) → IsHeldControl g → IsControlOfWords g
words_of_control g held = record { id = held.id; parent = held.parent; limit = words_of_small g.limit held.limit }

-- lines of one kind, of which the first are read
module _ {A : Type 0} (line : A → List ℕ) (c : ℕ) (begins : BeginsWith c line) (IsOfWords IsHeld : A → Type 0)
    (one : (a b : A) (x y : List ℕ) → line a ++ x ≡ line b ++ y → IsOfWords a → IsOfWords b → (a ≡ b) × (x ≡ y)) (words_of : (a : A) → IsHeld a → IsOfWords a)
    (text : List ℕ) (a b : ℕ) (xs : List A) (within_a : a ≤ length text) (within_b : b ≤ length text) (read : IsRead text a b (flat_map line xs)) (words : Each IsOfWords xs)
    (ys : List A) (rest : List ℕ) (held : Each IsHeld ys) (ends : IsNotAt c rest) (is : drop a text ≡ flat_map line ys ++ rest) where
  left : (more : List A) × (ys ≡ xs ++ more) × (drop b text ≡ flat_map line more ++ rest)
  left = lines_left line c begins IsOfWords one xs ys (drop b text) rest (sym (dropped text a b (flat_map line xs) within_a within_b read) ∙ is) words
      (λ y there. words_of y (held y there)) ends

  none_more : (z : List ℕ) → drop b text ≡ c ∷ z → LacksLine IsHeld line text b → (more : List A) → ys ≡ xs ++ more → drop b text ≡ flat_map line more ++ rest → ⊥
  none_more z begun lacks [] all here = ends z (sym here ∙ begun)
  none_more z begun lacks (y ∷ more) all here =
      lacks y (flat_map line more ++ rest) (held y (subst (IsIn y) (sym all) (is_in_front xs more y))) (here ∙ append_assoc (line y) (flat_map line more) rest)

  -- where a line begins that is none, such lines do not stand there
  pub no_lines : (z : List ℕ) → drop b text ≡ c ∷ z → LacksLine IsHeld line text b → ⊥
  no_lines z begun lacks = none_more z begun lacks left.0 left.1 left.2

  all_read : IsNotAt c (drop b text) → (more : List A) → ys ≡ xs ++ more → drop b text ≡ flat_map line more ++ rest → drop b text ≡ rest
  all_read over [] all here = here
  all_read over (y ∷ more) all here =
      absurd (over (((begins y).0 ++ flat_map line more) ++ rest) (here ∙ ap (λ l. (l ++ flat_map line more) ++ rest) (begins y).1))

  -- where none begins, all of them are read
  pub lines_behind : IsNotAt c (drop b text) → drop b text ≡ rest
  lines_behind over = all_read over left.0 left.1 left.2

-- the text of a state, up to each of its parts
module _ (text : List ℕ) (stamp : ℕ) (state : State) (word : IsWord stamp) (held : IsHeldState state) (is : text ≡ text_of stamp state) where
  abbrev whole : List ℕ
  whole = dump_text stamp state

  abbrev behind_spaces : List ℕ
  behind_spaces = flat_map control_text_line state.controls ++ end_line whole

  abbrev behind_tasks : List ℕ
  behind_tasks = flat_map space_line state.spaces ++ behind_spaces

  abbrev behind_head : List ℕ
  behind_head = flat_map task_text_line state.rows ++ behind_tasks

  at_head : drop 0 text ≡ head_line state.pid_max stamp ++ behind_head
  at_head = is ∙ text_flat stamp state

  not_task : IsNotAt 116 behind_tasks
  not_task = not_at 116 behind_tasks (spaces_front state.controls whole state.spaces)

  not_space : IsNotAt 115 behind_spaces
  not_space = not_at 115 behind_spaces (controls_front state.controls whole 115 (inr (lit< tt)) (inr (lit< tt)))

  not_control : IsNotAt 99 (end_line whole)
  not_control = not_at 99 (end_line whole) (end_front 99 whole (inl (lit< tt)))

  module _ (a1 pid_max next : ℕ) (within_head : a1 ≤ length text) (read_head : IsRead text 0 a1 (head_line pid_max next)) (word_bound : IsWord pid_max) (word_next : IsWord next) where
    at_tasks : drop a1 text ≡ behind_head
    at_tasks = (head_told pid_max state.pid_max next stamp (drop a1 text) behind_head (sym (dropped text 0 a1 (head_line pid_max next) (omega arith) within_head read_head) ∙ at_head)
        word_bound (word_of_small state.pid_max held.pid_max) word_next word).2

    pub no_text_tasks : LacksLines IsHeldRow task_text_line 116 text a1 → ⊥
    no_text_tasks lacks = lacks state.rows behind_tasks held.rows not_task at_tasks

    module _ (a2 : ℕ) (rows : List Row) (within_tasks : a2 ≤ length text) (read_tasks : IsRead text a1 a2 (flat_map task_text_line rows)) (words_tasks : Each IsRowOfWords rows)
        (no_task : Lacks (116 ∷ []) text a2) where
      at_spaces : drop a2 text ≡ behind_tasks
      at_spaces = lines_behind task_text_line 116 task_begins IsRowOfWords IsHeldRow task_told words_of_row text a1 a2 rows within_head within_tasks read_tasks words_tasks
          state.rows behind_tasks held.rows not_task at_tasks no_task

      pub no_text_spaces : LacksLines IsHeldSpace space_line 115 text a2 → ⊥
      no_text_spaces lacks = lacks state.spaces behind_spaces held.spaces not_space at_spaces

      module _ (a3 : ℕ) (spaces : List Space) (within_spaces : a3 ≤ length text) (read_spaces : IsRead text a2 a3 (flat_map space_line spaces)) (words_spaces : Each IsSpaceOfWords spaces)
          (no_space : Lacks (115 ∷ []) text a3) where
        at_controls : drop a3 text ≡ behind_spaces
        at_controls = lines_behind space_line 115 space_begins IsSpaceOfWords IsHeldSpace space_told words_of_space text a2 a3 spaces within_tasks within_spaces read_spaces words_spaces
            state.spaces behind_spaces held.spaces not_space at_spaces no_space

        pub no_text_controls : LacksLines IsHeldControl control_text_line 99 text a3 → ⊥
        no_text_controls lacks = lacks state.controls (end_line whole) held.controls not_control at_controls

        module _ (a4 : ℕ) (controls : List Control) (within_controls : a4 ≤ length text) (read_controls : IsRead text a3 a4 (flat_map control_text_line controls))
            (words_controls : Each IsControlOfWords controls) (no_control : Lacks (99 ∷ []) text a4) where
          at_end : drop a4 text ≡ end_line whole
          at_end = lines_behind control_text_line 99 control_begins IsControlOfWords IsHeldControl control_told words_of_control text a3 a4 controls within_spaces within_controls read_controls words_controls
              state.controls (end_line whole) held.controls not_control at_controls no_control

          before_end : take a4 text ≡ whole
          unfolding text_of
          before_end = append_cancel_right (take a4 text) whole (end_line whole)
              (ap (λ l. take a4 text ++ l) (sym at_end) ∙ take-append-drop a4 text ∙ is)

          pub no_text_end : (drop a4 text ≡ end_line (take a4 text) → ⊥) → ⊥
          no_text_end lacks = lacks (at_end ∙ ap end_line (sym before_end))
