-- The lines of a text: equal texts that begin with a line begin with one line of one thing.
use Rattle.std.proofs.Common.{◌≡◌, inl, inr, ℕ, Bool, true, false, List, [], ◌∷◌, ◌++◌, Option, decimal, codes, drop, refl, sym, ap, ◌∙◌, subst, lit<, append_assoc, append-nil}
use Rattle.std.specs.List.{flat_map}
use Rattle.std.proofs.lemmas.List.{append_cancel_left}
use Rattle.pid_types.specs.declared.plain.Name.{Name}
use Rattle.pid_types.specs.declared.plain.Life.{Life}
use Rattle.pid_types.specs.declared.plain.Row.{Row}
use Rattle.pid_types.specs.declared.plain.Space.{Space}
use Rattle.pid_types.specs.declared.plain.Control.{Control}
use Rattle.pid_script.specs.Lists.{marked, parent_text, limit_text, life_text, space_line}
use Rattle.table_text.specs.Texts.{name_word, parent_word, names_text, places_text, flags_text, task_text_line, rest_line, control_text_line, bounds_text, head_line}
use Rattle.table_text.specs.Ranges.{IsWord, Each, IsRowOfWords, IsSpaceOfWords, IsControlOfWords}
use Rattle.table_text.specs.Reading.{StopsDigits, IsNotAt}
use Rattle.table_text.proofs.Fronts.{IsApart, GoesOnBut, apart, first_told, number_told, marked_told}
use Rattle.table_text.proofs.Words.{name_told, parent_told, outer_told, limit_told, life_told}

pub names_flat : (r : Row) (x : List ℕ) → names_text r ++ x
    ≡ codes "task " ++ (name_word r.name ++ (codes " parent " ++ (parent_word r.parent ++ (codes " group " ++ (name_word r.group ++ (codes " session " ++ (name_word r.session ++ x)))))))
unfolding names_text
names_flat r x = simp append_assoc

pub places_flat : (r : Row) (x : List ℕ) → places_text r ++ x ≡ codes " control " ++ (decimal r.home ++ (codes " children " ++ (decimal r.children_space ++ x)))
unfolding places_text
places_flat r x = simp append_assoc

pub marks_flat : (r : Row) (x : List ℕ) → flags_text r ++ x
    ≡ codes " " ++ (life_text r.life ++ (marked r.executed (codes " executed") ++ (marked r.subreaper (codes " subreaper") ++ x)))
unfolding flags_text
marks_flat r x = simp append_assoc

pub task_flat : (r : Row) (x : List ℕ) → task_text_line r ++ x ≡ names_text r ++ (places_text r ++ (flags_text r ++ 10 ∷ x))
unfolding task_text_line
task_flat r x = simp append_assoc

pub rest_flat : (r : Row) (x : List ℕ) → rest_line r ++ x
    ≡ codes " parent " ++ (parent_word r.parent ++ (codes " group " ++ (name_word r.group ++ (codes " session " ++ (name_word r.session ++ (places_text r ++ (flags_text r ++ 10 ∷ x)))))))
unfolding rest_line
rest_flat r x = simp append_assoc

-- the line is the task's name, and the rest
pub line_rest : (r : Row) → task_text_line r ≡ (codes "task " ++ name_word r.name) ++ rest_line r
unfolding task_text_line names_text rest_line
line_rest r = simp append_assoc

-- whatever the name is
pub rest_same : (r : Row) (name : Name) → rest_line (record r { name = name }) ≡ rest_line r
unfolding rest_line places_text flags_text
rest_same r name = refl

regrouped : (a b c d e f g h x : List ℕ) → ((((((a ++ b) ++ c) ++ d) ++ (e ++ f)) ++ g) ++ h) ++ x ≡ a ++ (b ++ (c ++ (d ++ (e ++ (f ++ (g ++ (h ++ x)))))))
regrouped a b c d e f g h x = simp append_assoc

pub space_flat : (s : Space) (x : List ℕ) → space_line s ++ x
    ≡ codes "space " ++ (decimal s.id ++ (codes " parent " ++ (parent_text s.parent ++ (codes " cursor " ++ (decimal s.cursor ++ (marked s.fallen (codes " fallen") ++ 10 ∷ x))))))
unfolding space_line
space_flat s x =
    regrouped (codes "space ") (decimal s.id) (codes " parent ") (parent_text s.parent) (codes " cursor ") (decimal s.cursor) (marked s.fallen (codes " fallen")) (10 ∷ []) x

pub control_flat : (c : Control) (x : List ℕ) → control_text_line c ++ x
    ≡ codes "control " ++ (decimal c.id ++ (codes " parent " ++ (parent_text c.parent ++ (codes " limit " ++ (limit_text c.limit ++ 10 ∷ x)))))
unfolding control_text_line
control_flat c x = simp append_assoc

pub head_flat : (pid_max stamp : ℕ) (x : List ℕ) → head_line pid_max stamp ++ x
    ≡ codes "pidtab table 1" ++ (codes " pid-max " ++ (decimal pid_max ++ (codes " stamp " ++ (decimal stamp ++ 10 ∷ x))))
unfolding head_line bounds_text
head_flat pid_max stamp x = simp append_assoc

pub stops_places : (r : Row) (z : List ℕ) → StopsDigits (places_text r ++ z)
stops_places r z = subst StopsDigits (sym (places_flat r z)) (inl (lit< tt))

pub stops_line : (r : Row) (z : List ℕ) → StopsDigits (flags_text r ++ 10 ∷ z)
stops_line r z = subst StopsDigits (sym (marks_flat r (10 ∷ z))) (inl (lit< tt))

-- the names of a task, and what follows them
names_told : (a b : Row) (x y : List ℕ) → names_text a ++ x ≡ names_text b ++ y → IsRowOfWords a → IsRowOfWords b → StopsDigits x → StopsDigits y
    → (a.name ≡ b.name) × (a.parent ≡ b.parent) × (a.group ≡ b.group) × (a.session ≡ b.session) × (x ≡ y)
names_told a b x y e words_a words_b stops_x stops_y =
    let name = name_told a.name b.name _ _ (append_cancel_left (codes "task ") _ _ (sym (names_flat a x) ∙ e ∙ names_flat b y)) words_a.name words_b.name (inl (lit< tt)) (inl (lit< tt)) in
    let parent = parent_told a.parent b.parent _ _ (append_cancel_left (codes " parent ") _ _ name.1) words_a.parent words_b.parent (inl (lit< tt)) (inl (lit< tt)) in
    let group = name_told a.group b.group _ _ (append_cancel_left (codes " group ") _ _ parent.1) words_a.group words_b.group (inl (lit< tt)) (inl (lit< tt)) in
    let session = name_told a.session b.session _ _ (append_cancel_left (codes " session ") _ _ group.1) words_a.session words_b.session stops_x stops_y in
    (name.0, parent.0, group.0, session.0, session.1)

-- its control group, and where its children go
places_told : (a b : Row) (x y : List ℕ) → places_text a ++ x ≡ places_text b ++ y → IsRowOfWords a → IsRowOfWords b → StopsDigits x → StopsDigits y
    → (a.home ≡ b.home) × (a.children_space ≡ b.children_space) × (x ≡ y)
places_told a b x y e words_a words_b stops_x stops_y =
    let home = number_told a.home b.home _ _ (append_cancel_left (codes " control ") _ _ (sym (places_flat a x) ∙ e ∙ places_flat b y)) words_a.home words_b.home (inl (lit< tt)) (inl (lit< tt)) in
    let children = number_told a.children_space b.children_space _ _ (append_cancel_left (codes " children ") _ _ home.1) words_a.children_space words_b.children_space stops_x stops_y in
    (home.0, children.0, children.1)

pub stops_marks : (e s : Bool) (x : List ℕ) → StopsDigits (marked e (codes " executed") ++ (marked s (codes " subreaper") ++ 10 ∷ x))
stops_marks true s x = inl (lit< tt)
stops_marks false true x = inl (lit< tt)
stops_marks false false x = inl (lit< tt)

pub not_executed : (s : Bool) (x z : List ℕ) → marked s (codes " subreaper") ++ 10 ∷ x ≡ codes " executed" ++ z → ⊥
not_executed true x z e = apart ⊥ 115 101 _ _ (first_told 32 32 _ _ e).1 (inr (lit< tt))
not_executed false x z e = apart ⊥ 10 32 _ _ e (inl (lit< tt))

pub not_marked : (x z : List ℕ) → 10 ∷ x ≡ 32 ∷ z → ⊥
not_marked x z e = apart ⊥ 10 32 _ _ e (inl (lit< tt))

-- its life and its marks, up to the end of the line
marks_told : (a b : Row) (x y : List ℕ) → flags_text a ++ 10 ∷ x ≡ flags_text b ++ 10 ∷ y → IsRowOfWords a → IsRowOfWords b
    → (a.life ≡ b.life) × (a.executed ≡ b.executed) × (a.subreaper ≡ b.subreaper) × (x ≡ y)
marks_told a b x y e words_a words_b =
    let life = life_told a.life b.life _ _ (append_cancel_left (codes " ") _ _ (sym (marks_flat a (10 ∷ x)) ∙ e ∙ marks_flat b (10 ∷ y))) words_a.life words_b.life
    (stops_marks a.executed a.subreaper x) (stops_marks b.executed b.subreaper y) in
    let executed = marked_told (codes " executed") a.executed b.executed _ _ life.1 (not_executed a.subreaper x) (not_executed b.subreaper y) in
    let subreaper = marked_told (codes " subreaper") a.subreaper b.subreaper (10 ∷ x) (10 ∷ y) executed.1 (λ z. not_marked x _) (λ z. not_marked y _) in
    (life.0, executed.0, subreaper.0, (first_told 10 10 x y subreaper.1).1)

abbrev row_of : Name → Option Name → Name → Name → Bool → Life → ℕ → ℕ → Bool → Row
row_of name parent group session executed life home children_space subreaper = record {
  name = name;
  parent = parent;
  group = group;
  session = session;
  executed = executed;
  life = life;
  home = home;
  children_space = children_space;
  subreaper = subreaper;
}

-- the line of a task
pub task_told : (a b : Row) (x y : List ℕ) → task_text_line a ++ x ≡ task_text_line b ++ y → IsRowOfWords a → IsRowOfWords b → (a ≡ b) × (x ≡ y)
task_told a b x y e words_a words_b =
    let names = names_told a b _ _ (sym (task_flat a x) ∙ e ∙ task_flat b y) words_a words_b (stops_places a _) (stops_places b _) in
    let places = places_told a b _ _ names.4 words_a words_b (stops_line a x) (stops_line b y) in
    let marks = marks_told a b x y places.2 words_a words_b in
    let n = names.0 in let p = names.1 in let g = names.2 in let s = names.3 in
    let h = places.0 in let c = places.1 in let l = marks.0 in let x = marks.1 in let r = marks.2 in
    let same : row_of a.name a.parent a.group a.session a.executed a.life a.home a.children_space a.subreaper
    ≡ row_of b.name b.parent b.group b.session b.executed b.life b.home b.children_space b.subreaper = cc (n, p, g, s, h, c, l, x, r) in
    (same, marks.3)

pub stops_mark : (fallen : Bool) (x : List ℕ) → StopsDigits (marked fallen (codes " fallen") ++ 10 ∷ x)
stops_mark true x = inl (lit< tt)
stops_mark false x = inl (lit< tt)

-- the line of a namespace
pub space_told : (a b : Space) (x y : List ℕ) → space_line a ++ x ≡ space_line b ++ y → IsSpaceOfWords a → IsSpaceOfWords b → (a ≡ b) × (x ≡ y)
space_told a b x y e words_a words_b =
    let id = number_told a.id b.id _ _ (append_cancel_left (codes "space ") _ _ (sym (space_flat a x) ∙ e ∙ space_flat b y)) words_a.id words_b.id (inl (lit< tt)) (inl (lit< tt)) in
    let parent = outer_told a.parent b.parent _ _ (append_cancel_left (codes " parent ") _ _ id.1) words_a.parent words_b.parent (inl (lit< tt)) (inl (lit< tt)) in
    let cursor = number_told a.cursor b.cursor _ _ (append_cancel_left (codes " cursor ") _ _ parent.1) words_a.cursor words_b.cursor (stops_mark a.fallen x) (stops_mark b.fallen y) in
    let fallen = marked_told (codes " fallen") a.fallen b.fallen (10 ∷ x) (10 ∷ y) cursor.1 (λ z. not_marked x _) (λ z. not_marked y _) in
    let i = id.0 in let p = parent.0 in let c = cursor.0 in let f = fallen.0 in
    let made = λ (i : ℕ) (p : Option ℕ) (c : ℕ) (f : Bool). let it : Space = record { id = i; parent = p; cursor = c; fallen = f } in it in
    let same : made a.id a.parent a.cursor a.fallen ≡ made b.id b.parent b.cursor b.fallen = cc (i, p, c, f) in
    (same, (first_told 10 10 x y fallen.1).1)

-- the line of a control group
pub control_told : (a b : Control) (x y : List ℕ) → control_text_line a ++ x ≡ control_text_line b ++ y → IsControlOfWords a → IsControlOfWords b → (a ≡ b) × (x ≡ y)
control_told a b x y e words_a words_b =
    let id = number_told a.id b.id _ _ (append_cancel_left (codes "control ") _ _ (sym (control_flat a x) ∙ e ∙ control_flat b y)) words_a.id words_b.id (inl (lit< tt)) (inl (lit< tt)) in
    let parent = outer_told a.parent b.parent _ _ (append_cancel_left (codes " parent ") _ _ id.1) words_a.parent words_b.parent (inl (lit< tt)) (inl (lit< tt)) in
    let limit = limit_told a.limit b.limit _ _ (append_cancel_left (codes " limit ") _ _ parent.1) words_a.limit words_b.limit (inl (lit< tt)) (inl (lit< tt)) in
    let i = id.0 in let p = parent.0 in let l = limit.0 in
    let made = λ (i : ℕ) (p : Option ℕ) (l : Option ℕ). let it : Control = record { id = i; parent = p; limit = l } in it in
    let same : made a.id a.parent a.limit ≡ made b.id b.parent b.limit = cc (i, p, l) in
    (same, (first_told 10 10 x y limit.1).1)

-- the first line
pub head_told : (m n s t : ℕ) (x y : List ℕ) → head_line m s ++ x ≡ head_line n t ++ y → IsWord m → IsWord n → IsWord s → IsWord t → (m ≡ n) × (s ≡ t) × (x ≡ y)
head_told m n s t x y e word_m word_n word_s word_t =
    let bound = number_told m n _ _ (append_cancel_left (codes " pid-max ") _ _ (append_cancel_left (codes "pidtab table 1") _ _ (sym (head_flat m s x) ∙ e ∙ head_flat n t y))) word_m word_n (inl (lit< tt)) (inl (lit< tt)) in
    let stamp = number_told s t _ _ (append_cancel_left (codes " stamp ") _ _ bound.1) word_s word_t (inl (lit< tt)) (inl (lit< tt)) in
    (bound.0, stamp.0, (first_told 10 10 x y stamp.1).1)

-- each line begins with this byte
abbrev pub BeginsWith : {A : Type 0} → ℕ → (A → List ℕ) → Type 0
BeginsWith {A} c line = (a : A) → (cs : List ℕ) × (line a ≡ c ∷ cs)

pub task_begins : BeginsWith 116 task_text_line
unfolding task_text_line names_text
task_begins r = (drop 1 (task_text_line r), refl)

pub space_begins : BeginsWith 115 space_line
unfolding space_line
space_begins s = (drop 1 (space_line s), refl)

pub control_begins : BeginsWith 99 control_text_line
unfolding control_text_line
control_begins c = (drop 1 (control_text_line c), refl)

-- what goes on otherwise does not go on with the byte
pub not_at : (c : ℕ) (text : List ℕ) → GoesOnBut c text → IsNotAt c text
not_at c [] ends z is = cc is
not_at c (b ∷ bs) ends z is = apart ⊥ c b z bs (sym is) ends

-- lines, up to a text that begins otherwise
module _ {A : Type 0} (line : A → List ℕ) (c : ℕ) (begins : BeginsWith c line) where
  -- what begins with such lines begins with this byte, or as what follows them
  pub lines_front : (d : ℕ) (xs : List A) (x : List ℕ) → IsApart d c → GoesOnBut d x → GoesOnBut d (flat_map line xs ++ x)
  lines_front d [] x other ends = ends
  lines_front d (a ∷ xs) x other ends = subst (λ l. GoesOnBut d ((l ++ flat_map line xs) ++ x)) (sym (begins a).1) other

  -- the first of such lines, and what is left of all of them
  pub lines_left : (IsOfWords : A → Type 0) → ((a b : A) (x y : List ℕ) → line a ++ x ≡ line b ++ y → IsOfWords a → IsOfWords b → (a ≡ b) × (x ≡ y))
      → (xs_ bs : List A) (x y : List ℕ) → flat_map line xs_ ++ x ≡ flat_map line bs ++ y → Each IsOfWords xs_ → Each IsOfWords bs → IsNotAt c y
      → (more : List A) × (bs ≡ xs_ ++ more) × (x ≡ flat_map line more ++ y)
  lines_left IsOfWords one [] bs x y e words_a words_b ends = (bs, refl, e)
  lines_left IsOfWords one (a ∷ xs_) [] x y e words_a words_b ends =
      absurd (ends (((begins a).0 ++ flat_map line xs_) ++ x) (sym e ∙ ap (λ l. (l ++ flat_map line xs_) ++ x) (begins a).1))
  lines_left IsOfWords one (a ∷ xs_) (b ∷ bs) x y e words_a words_b ends =
      let first = one a b _ _ (sym (append_assoc (line a) (flat_map line xs_) x) ∙ e ∙ append_assoc (line b) (flat_map line bs) y) (words_a a (inl refl)) (words_b b (inl refl)) in
      let rest = lines_left IsOfWords one xs_ bs x y first.1 (λ k there. words_a k (inr there)) (λ k there. words_b k (inr there)) ends in
      let head = first.0 in let others = rest.1 in
      (rest.0, cc (head, others), rest.2)

  none_left : (xs_ bs : List A) (x y : List ℕ) → GoesOnBut c x → (more : List A) → bs ≡ xs_ ++ more → x ≡ flat_map line more ++ y → (xs_ ≡ bs) × (x ≡ y)
  none_left xs_ bs x y ends [] all here = (sym (all ∙ append-nil xs_), here)
  none_left xs_ bs x y ends (a ∷ more) all here = absurd (not_at c x ends _ (here ∙ ap (λ l. (l ++ flat_map line more) ++ y) (begins a).1))

  -- all of them
  pub lines_told : (IsOfWords : A → Type 0) → ((a b : A) (x y : List ℕ) → line a ++ x ≡ line b ++ y → IsOfWords a → IsOfWords b → (a ≡ b) × (x ≡ y))
      → (xs_ bs : List A) (x y : List ℕ) → flat_map line xs_ ++ x ≡ flat_map line bs ++ y → Each IsOfWords xs_ → Each IsOfWords bs
      → GoesOnBut c x → GoesOnBut c y → (xs_ ≡ bs) × (x ≡ y)
  lines_told IsOfWords one xs_ bs x y e words_a words_b ends_x ends_y =
      let left = lines_left IsOfWords one xs_ bs x y e words_a words_b (not_at c y ends_y) in
      none_left xs_ bs x y ends_x left.0 left.1 left.2
