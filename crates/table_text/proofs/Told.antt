-- Equal texts are of one state.
use Rattle.std.proofs.Common.{◌≡◌, inl, inr, ℕ, List, [], ◌∷◌, ◌++◌, map, refl, sym, ap, ◌∙◌, lit<, append_assoc}
use Rattle.std.specs.List.{flat_map}
use Rattle.pid_types.specs.declared.plain.Name.{Name}
use Rattle.pid_types.specs.declared.plain.Row.{Row}
use Rattle.pid_types.specs.declared.plain.Space.{Space}
use Rattle.pid_types.specs.declared.plain.Control.{Control}
use Rattle.pid_types.specs.declared.plain.Plain.{Plain}
use Rattle.pid_types.specs.declared.plain.Thread.{Thread}
use Rattle.pid_types.specs.State.{State}
use Rattle.pid_types.specs.Shown.{Shows, with_count}
use Rattle.pid_script.specs.Lists.{space_line}
use Rattle.table_text.specs.Texts.{task_text_line, control_text_line, head_line, dump_text, end_line, text_of, control_shown, state_shown}
use Rattle.table_text.specs.Ranges.{IsWord, IsRowOfWords, IsSpaceOfWords, IsControlOfWords, IsStateOfWords}
use Rattle.table_text.proofs.Fronts.{IsApart, GoesOnBut}
use Rattle.table_text.proofs.Lines.{task_told, space_told, control_told, head_told, task_begins, space_begins, control_begins, lines_front, lines_told}

-- the control groups of a snapshot, without their counts
pub uncounted : (state : State) (controls : List Control) → map control_shown (map (with_count state) controls) ≡ controls
uncounted state [] = refl
uncounted state (c ∷ controls) = ap (λ rest. c ∷ rest) (uncounted state controls)

abbrev state_of : List Row → List Thread → List Name → List Space → List Control → ℕ → State
state_of rows threads left spaces controls pid_max =
    record { rows = rows; threads = threads; left = left; spaces = spaces; controls = controls; pid_max = pid_max }

-- a snapshot has the state that it shows
pub state_in-shown : (state : State) (plain : Plain) → Shows state plain → state_shown plain ≡ state
state_in-shown state plain shows =
    let r = shows.rows in let t = shows.threads in let l = shows.left in let s = shows.spaces in let m = shows.pid_max in
    let c = ap (map control_shown) shows.controls ∙ uncounted state state.controls in
    let same : state_of plain.rows.items [] [] plain.spaces.items (map control_shown plain.controls.items) plain.pid_max
    ≡ state_of state.rows state.threads state.left state.spaces state.controls state.pid_max = cc (r, t, l, s, c, m) in
    same

pub end_front : (c : ℕ) (text : List ℕ) → IsApart c 101 → GoesOnBut c (end_line text)
unfolding end_line
end_front c text other = other

pub text_flat : (stamp : ℕ) (state : State) → text_of stamp state
    ≡ head_line state.pid_max stamp ++ (flat_map task_text_line state.rows ++ (flat_map space_line state.spaces ++ (flat_map control_text_line state.controls ++ end_line (dump_text stamp state))))
unfolding text_of dump_text
text_flat stamp state = simp append_assoc

module _ (controls : List Control) (text : List ℕ) where
  pub controls_front : (d : ℕ) → IsApart d 99 → IsApart d 101 → GoesOnBut d (flat_map control_text_line controls ++ end_line text)
  controls_front d other ends = lines_front control_text_line 99 control_begins d controls (end_line text) other (end_front d text ends)

  pub spaces_front : (spaces : List Space) → GoesOnBut 116 (flat_map space_line spaces ++ (flat_map control_text_line controls ++ end_line text))
  spaces_front spaces = lines_front space_line 115 space_begins 116 spaces _ (inr (lit< tt)) (controls_front 116 (inr (lit< tt)) (inr (lit< tt)))

-- equal texts are of one state, with one stamp
pub text_told : (m n : ℕ) (a b : State) → IsWord m → IsWord n → IsStateOfWords a → IsStateOfWords b → text_of m a ≡ text_of n b → (m ≡ n) × (a ≡ b)
text_told m n a b word_m word_n words_a words_b e =
    let ends_a = dump_text m a in let ends_b = dump_text n b in
    let head = head_told a.pid_max b.pid_max m n _ _ (sym (text_flat m a) ∙ e ∙ text_flat n b) words_a.pid_max words_b.pid_max word_m word_n in
    let rows = lines_told task_text_line 116 task_begins IsRowOfWords task_told a.rows b.rows _ _ head.2 words_a.rows words_b.rows (spaces_front a.controls ends_a a.spaces) (spaces_front b.controls ends_b b.spaces) in
    let spaces = lines_told space_line 115 space_begins IsSpaceOfWords space_told a.spaces b.spaces _ _ rows.1 words_a.spaces words_b.spaces
    (controls_front a.controls ends_a 115 (inr (lit< tt)) (inr (lit< tt))) (controls_front b.controls ends_b 115 (inr (lit< tt)) (inr (lit< tt))) in
    let controls = lines_told control_text_line 99 control_begins IsControlOfWords control_told a.controls b.controls _ _ spaces.1 words_a.controls words_b.controls
    (end_front 99 ends_a (inl (lit< tt))) (end_front 99 ends_b (inl (lit< tt))) in
    let r = rows.0 in let s = spaces.0 in let c = controls.0 in let p = head.0 in
    let t : a.threads ≡ b.threads = words_a.threads ∙ sym words_b.threads in
    let l : a.left ≡ b.left = words_a.left ∙ sym words_b.left in
    let same : state_of a.rows a.threads a.left a.spaces a.controls a.pid_max ≡ state_of b.rows b.threads b.left b.spaces b.controls b.pid_max =
    cc (r, t, l, s, c, p) in
    (head.1, same)
