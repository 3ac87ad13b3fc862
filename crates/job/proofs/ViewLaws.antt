-- The view that is put together is that of the job, and cause 7 is what is read through it.
use mathlib.Core.Bool.{Bool, true, false, cond, ◌||◌}
use mathlib.Core.List.{List, [], ◌∷◌, map}
use mathlib.Core.Path.{◌≡◌, refl, sym, ap, ap₂, subst, subst₂, ◌∙◌}
use Prim.Native.Nat.{ℕ, zero, suc, ◌+◌, ◌-◌, ◌/◌, ◌<◌, ◌≤◌, min}
use native.Mathlib.Numerals.{add-one}
use native.Mathlib.Omega.{arith}
use lib.ListN.{length, get_or, take, drop, length-take, length-drop}
use lib.Seq.{get_or-take, get_or-drop, take_all, drop-drop}
use Rattle.std.proofs.lemmas.List.Sums.{sum_by-cons}
use Rattle.std.specs.List as S
use Rattle.model.specs.Content.{Part, Kind, no_kind, kind_at, kind_count, piece_count}
use Rattle.model.specs.ContentFit.{BoardFit}
use Rattle.model.specs.Format.{byte_at, word_at, board_at, got, many, read_kind, vertices, kinds_at, kinds_length, kinds_stated, kind_bytes, kinds_got, content, board_of, by_rising_id, classes_at, classes_stated, cause1, cause2, cause3, cause4, cause5, cause6, cause7, refusal}
use Rattle.model.specs.Gap.{best_class, kind_gap}
use Rattle.model.specs.Lists.{any, sum, rising, below}
use Rattle.model.specs.Grid.{rows, columns}
use Rattle.model.specs.Refusal.{number}
use Rattle.model.specs.declared.Refusal.{Refusal}
use Rattle.model.specs.declared.Refusal.TheVariants as R
use Rattle.model.proofs.Causes.{no_cause, NoCause, none_before, refusal_is, Sections, sections, board-fits, KindsFit, kinds-fit}
use Rattle.model.proofs.Folds.{any-more, any-take-more, below_more}
use Rattle.model.proofs.Readers.{many-length}
use Rattle.model.proofs.Records.{byte_behind, length-vertices, vertices-same, part-read}
use Rattle.frame.specs.Board.{BoardIn}
use Rattle.frame.specs.declared.board.Board.{Board}
use Rattle.records.specs.Classes.{classes_from, classes_unfit}
use Rattle.job.specs.Gaps.{class_cut}
use Rattle.job.specs.Places.{FoundAt}
use Rattle.records.specs.Records.{Reads, values_of}
use Rattle.job.specs.Refusal.{refusal_to6}
use Rattle.job.specs.Soundness.{bad_part, bad_at, bad_kind}
use Rattle.job.specs.Table.{Stored, Built}
use Rattle.job.specs.declared.Kind as J
use Rattle.job.specs.declared.View.{View}
use Rattle.job.specs.View.{blank, part_at_of, PartAt, ViewOf}
use Rattle.records.specs.Parts.{unfit_from}
use Rattle.records.proofs.PartLaws.{unfit_same}
use Rattle.job.proofs.CauseLaws.{classes-are, classes-cause, list_is, list_length}
use Rattle.records.proofs.RecordLaws.{tail, reads-from, values_from}

-- A byte of the type list is one of the job.
byte_in_list : (s : List ℕ) (q i : ℕ) → i < length (drop q (kind_bytes s)) → byte_at (drop q (kind_bytes s)) i ≡ byte_at s (kinds_at s + q + i)
unfolding byte_at kind_bytes
byte_in_list s q i h =
    let l : i < min (kinds_length s) (length s - kinds_at s) - q = rw (length-drop, length-take, length-drop) at h in
    get_or-drop q (take (kinds_length s) (drop (kinds_at s) s)) i 0
    ∙ get_or-take (kinds_length s) (drop (kinds_at s) s) (q + i) 0 (omega arith)
    ∙ get_or-drop (kinds_at s) s (q + i) 0
    ∙ ap (λ m. get_or s m 0) (omega arith)

list_room : (s : List ℕ) (q : ℕ) → length (drop q (kind_bytes s)) ≤ length s - (kinds_at s + q)
unfolding kind_bytes
list_room s q = rw (length-drop, length-take, length-drop) (omega arith)

-- A part that was found in the type list stands in the job.
pub part-at : (s : List ℕ) (o : ℕ) (P : Part) → FoundAt (kind_bytes s) (kinds_at s) o P → PartAt s o P
part-at s o P f =
    let q = f.behind in
    let X = drop q (kind_bytes s) in
    let r = part-read X P _ f.reads in
    let room = list_room s q in
    let e : o ≡ kinds_at s + q = f.place in
    let len : length P ≡ byte_at X 0 = ap length r.value ∙ length-vertices (byte_at X 0) (drop 1 X) in
    let first : byte_at X 0 ≡ byte_at s o = byte_in_list s q 0 (let h = r.inside in omega arith) ∙ ap (byte_at s) (omega arith) in
    let same : vertices (byte_at X 0) (drop 1 X) ≡ vertices (byte_at X 0) (drop (o + 1) s) =
    vertices-same (byte_at X 0) (drop 1 X) (drop (o + 1) s)
    (λ i h. byte_behind X 1 i ∙ byte_in_list s q (1 + i) (let k = r.inside in omega arith) ∙ ap (byte_at s) (omega arith) ∙ sym (byte_behind s (o + 1) i)) in
    let a = r.least in
    let b = r.most in
    let c = r.inside in
    record {
      stated = sym first ∙ sym len;
      least = omega arith;
      most = omega arith;
      inside = omega arith;
      read = ap (λ n. vertices n (drop (o + 1) s)) len ∙ sym same ∙ sym r.value;
    }

-- ---- Cause 7

pub cause7-is : (s : List ℕ) → cause7 s ≡ any bad_kind (content s).kinds
unfolding cause7 bad_kind bad_part content
cause7-is s = refl

-- The part at its place.
pub bad-at : (s : List ℕ) (o : ℕ) (P : Part) → PartAt s o P → bad_at s o ≡ bad_part P
unfolding bad_at
bad-at s o P p = ap bad_part (ap (λ n. vertices n (drop (o + 1) s)) p.stated ∙ p.read)

-- A test of numbers that tells of each element what p does.
any-upto : {A : Type 0} (p : A → Bool) (q : ℕ → Bool) (d : A) (xs : List A) (n : ℕ) → n ≤ length xs
    → ((i : ℕ) → i < n → q i ≡ p (get_or xs i d))
    → any q (below n) ≡ any p (take n xs)
unfolding any below rising
any-upto p q d xs zero h f = refl
any-upto p q d xs (suc n) h f =
    ap (λ m. any q (below m)) (sym (add-one n)) ∙ ap (any q) (below_more n) ∙ any-more q (below n) n
    ∙ ap₂ (λ a b. a || b) (any-upto p q d xs n (omega arith) (λ i l. f i (omega arith))) (f n (omega arith))
    ∙ sym (any-take-more p xs d n h) ∙ ap (λ m. any p (take m xs)) (add-one n)

any-places : {A : Type 0} (p : A → Bool) (q : ℕ → Bool) (d : A) (xs : List A) (n : ℕ) → n ≡ length xs
    → ((i : ℕ) → i < n → q i ≡ p (get_or xs i d)) → any q (below n) ≡ any p xs
any-places p q d xs n e f = any-upto p q d xs n (omega arith) f ∙ ap (any p) (take_all n xs (omega arith))

pub parts_judged : (s ats : List ℕ) (k : Kind) (n : ℕ) → n ≡ length k.parts
    → ((i : ℕ) → i < length k.parts → PartAt s (get_or ats i 0) (get_or k.parts i []))
    → any (λ i. bad_at s (get_or ats i 0)) (below n) ≡ bad_kind k
unfolding bad_kind
parts_judged s ats k n e f =
    any-places bad_part (λ i. bad_at s (get_or ats i 0)) [] k.parts n e
    (λ i l. bad-at s (get_or ats i 0) (get_or k.parts i []) (f i (omega arith)))

pub kinds-judged : (s : List ℕ) (n : ℕ) → n ≡ kind_count (content s).kinds
    → any (λ t. bad_kind (kind_at (content s).kinds t)) (below n) ≡ cause7 s
unfolding kind_at kind_count
kinds-judged s n e =
    any-places bad_kind (λ t. bad_kind (kind_at (content s).kinds t)) no_kind (content s).kinds n e (λ t l. refl)
    ∙ sym (cause7-is s)

-- ---- The view

pub no_six : (s : List ℕ) → refusal_to6 s ≡ 0 → NoCause s
unfolding refusal_to6
no_six s e = none_before s 0 e

-- An accepted job gives none of the causes 1 to 6.
pub six_none : (s : List ℕ) → refusal s ≡ 0 → refusal_to6 s ≡ 0
unfolding refusal_to6
six_none s e = let n = no_cause s e in rw (n.no1, n.no2, n.no3, n.no4, n.no5, n.no6)

-- The demands of the kinds in a table are those of these kinds.
demands-sum : (table : List J.Kind) (ks : List Kind) → length ks ≤ length table
    → ((t : ℕ) → t < length ks → (get_or table t blank).demand ≡ (get_or ks t no_kind).demand)
    → S.sum (map (λ e. e.demand) (take (length ks) table)) ≡ sum (map (λ k. k.demand) ks)
unfolding sum
demands-sum table [] h f = refl
demands-sum [] (k ∷ ks) h f = absurd (omega arith)
demands-sum (e ∷ es) (k ∷ ks) h f =
    sum_by-cons (λ x. x) e.demand (map (λ e. e.demand) (take (length ks) es))
    ∙ ap₂ (λ a b. a + b) (f 0 (omega arith)) (demands-sum es ks (omega arith) (λ t q. f (suc t) (omega arith)))

module _ (s : List ℕ) (e : refusal_to6 s ≡ 0) where
  pub inside : Sections s
  inside = sections s (no_six s e).no1 (no_six s e).no3

  pub board-in : BoardFit (board_of s)
  board-in = board-fits s (no_six s e).no4

  pub kinds-in : KindsFit s
  kinds-in = kinds-fit s (no_six s e).no6

  pub classes-in : (o n : ℕ) → o ≡ classes_at s → n ≡ classes_stated s → classes_unfit s o n ≡ false
  classes-in o n eo en = classes-cause s o n eo en ∙ (no_six s e).no5

  module _ (base size n : ℕ) (eb : base ≡ kinds_at s) (es : size ≡ kinds_length s) (en : n ≡ kinds_stated s) where
    pub got-list : many read_kind n (take (base + size - base) (drop base s)) ≡ got (content s).kinds (kinds_length s)
    unfolding kinds_got
    got-list = ap₂ (many read_kind) en (list_is s base size eb es) ∙ kinds-in.reads

    pub length-list : length (take (base + size - base) (drop base s)) ≡ kinds_length s
    length-list = ap length (list_is s base size eb es) ∙ list_length s base size eb es (let i = inside.kinds in omega arith)

    pub list_reads : Reads (many read_kind n (take (base + size - base) (drop base s))) (length (take (base + size - base) (drop base s)))
    list_reads = subst (Reads (many read_kind n (take (base + size - base) (drop base s)))) (sym length-list) (reads-from _ _ _ got-list)

    pub kind-count : kind_count (content s).kinds ≡ n
    unfolding kind_count
    kind-count = many-length read_kind n _ _ _ got-list

    classes-risen : (o m : ℕ) → o ≡ classes_at s → m ≡ classes_stated s → by_rising_id (classes_from s o m) ≡ (content s).classes
    unfolding content
    classes-risen o m eo em = rw (eo, em, ← (classes-are s))

    module _ (o m : ℕ) (eo : o ≡ classes_at s) (em : m ≡ classes_stated s) (table : List J.Kind)
        (b : Built (classes_from s o m) (take (base + size - base) (drop base s)) base n
        (length (take (base + size - base) (drop base s))) table) where
      kinds-stored : (t : ℕ) → t < kind_count (content s).kinds
          → Stored (classes_from s o m) (take (base + size - base) (drop base s)) base (get_or table t blank)
          (kind_at (content s).kinds t)
      unfolding kind_at
      kinds-stored t h =
          let vs : values_of (many read_kind n (take (base + size - base) (drop base s)))
          ≡ (content s).kinds = values_from _ _ _ got-list in
          subst (λ l. Stored (classes_from s o m) (take (base + size - base) (drop base s)) base (get_or table t blank)
          (get_or l t no_kind)) vs
          (b.stored t (let q = kind-count in omega arith))

      pub pieces-are : n ≤ length table → S.sum (map (λ e. e.demand) (take n table)) ≡ piece_count (content s).kinds
      unfolding piece_count kind_count kind_at
      pieces-are h =
          ap (λ m. S.sum (map (λ e. e.demand) (take m table))) (sym kind-count)
          ∙ demands-sum table (content s).kinds (let q = kind-count in omega arith) (λ t h. (kinds-stored t h).demand)

      -- What was read makes the view.
      pub view-is : (v : View) → table ≡ v.kind → v.pieces ≡ piece_count (content s).kinds → v.width ≡ (board_of s).W
          → v.length ≡ (board_of s).L → v.step ≡ (board_of s).g
          → v.rows ≡ v.width / v.step + 1 → v.columns ≡ v.length / v.step + 1 → v.margin ≤ 63 → v.kinds ≡ n → ViewOf s v
      unfolding content rows columns
      view-is v et ep ew el eg er ec hm ek =
          record {
            width = ew;
            len = el;
            step = eg;
            rows = er ∙ ap₂ (λ a c. a / c + 1) ew eg;
            columns = ec ∙ ap₂ (λ a c. a / c + 1) el eg;
            margin = hm;
            kinds = ek ∙ sym kind-count;
            pieces = ep;
            kind = λ t h.
                let st = subst (λ l. Stored (classes_from s o m) (take (base + size - base) (drop base s)) base
                (get_or l t blank) (kind_at (content s).kinds t)) et (kinds-stored t h) in
                record {
                  demand = st.demand;
                  rotations = st.rotations;
                  gap = st.gap ∙ ap (λ cs. kind_gap cs (kind_at (content s).kinds t)) (classes-risen o m eo em);
                  cut = st.cut ∙ ap (λ cs. class_cut (best_class cs (kind_at (content s).kinds t)))
                      (classes-risen o m eo em);
                  parts = st.parts;
                  few_parts = st.few_parts;
                  part = λ i q. part-at s _ _ (subst₂
                      (λ l c. FoundAt l c (part_at_of v t i) (get_or (kind_at (content s).kinds t).parts i []))
                      (list_is s base size eb es) eb (st.part i q));
                };
          }

-- The board that was read is that of the job.
pub board-read : (s : List ℕ) (o : ℕ) (b : Board) → o ≡ board_at s → BoardIn s o b
    → (b.width ≡ (board_of s).W) × (b.length ≡ (board_of s).L) × (b.step ≡ (board_of s).g)
unfolding board_of
board-read s o b e i =
    (i.width ∙ ap (word_at s) e, i.len ∙ ap (λ m. word_at s (m + 2)) e, i.step ∙ ap (λ m. word_at s (m + 4)) e)

-- A part judged from its first byte on.
pub part-judged : (s : List ℕ) (o n : ℕ) (r : Bool) → n ≡ byte_at s o → r ≡ unfit_from (take (length s - o) (drop o s)) n → r ≡ bad_at s o
unfolding bad_at bad_part
part-judged s o n r en er =
    er ∙ ap (λ l. unfit_from l n) (tail s o) ∙ unfit_same (drop o s) n
    ∙ rw (drop-drop 1 o s, en)

-- ---- The refusal

abbrev sixth : Bool → Bool → Bool → Bool → Bool → Bool → ℕ → ℕ
sixth a b c d e f r = cond a 1 (cond b 2 (cond c 3 (cond d 4 (cond e 5 (cond f 6 r)))))

-- No refusal has the number 0.
pub some_number : (r : Refusal) → number r ≡ 0 → ⊥
some_number R.Size = λ z. omega arith
some_number R.Mark = λ z. omega arith
some_number R.Sections = λ z. omega arith
some_number R.Board = λ z. omega arith
some_number R.Classes = λ z. omega arith
some_number R.Kinds = λ z. omega arith
some_number R.Parts = λ z. omega arith
some_number R.Work = λ z. omega arith
some_number R.Answer = λ z. omega arith
some_number R.Layout = λ z. omega arith
some_number R.Candidate = λ z. omega arith
some_number R.Margin = λ z. omega arith
some_number R.Outline = λ z. omega arith

pub refusal-six : (s : List ℕ) (r : Refusal) → number r ≡ refusal_to6 s → number r ≡ refusal s
unfolding refusal_to6
refusal-six s r e =
    e ∙ sym (refusal_is s ∙ same (cause1 s) (cause2 s) (cause3 s) (cause4 s) (cause5 s) (cause6 s)
    (λ z. some_number r (e ∙ z)))
  where
    same : (a b c d e f : Bool) → (sixth a b c d e f 0 ≡ 0 → ⊥) → sixth a b c d e f (cond (cause7 s) 7 0) ≡ sixth a b c d e f 0
    same true b c d e f h = refl
    same false true c d e f h = refl
    same false false true d e f h = refl
    same false false false true e f h = refl
    same false false false false true f h = refl
    same false false false false false true h = refl
    same false false false false false false h = absurd (h refl)

pub refusal-seven : (s : List ℕ) (t : Bool) → refusal_to6 s ≡ 0 → cause7 s ≡ t → refusal s ≡ cond t 7 0
refusal-seven s t e q =
    let n = no_six s e in
    refusal_is s ∙ rw (n.no1, n.no2, n.no3, n.no4, n.no5, n.no6, q)

pub few-kinds : (s : List ℕ) → refusal_to6 s ≡ 0 → kind_count (content s).kinds ≤ 8
unfolding kind_count kinds_got
few-kinds s e =
    let k = kinds-in s e in
    let q : length (content s).kinds ≡ kinds_stated s = many-length read_kind (kinds_stated s) (kind_bytes s) _ _ k.reads in
    let m = k.most in
    omega arith
