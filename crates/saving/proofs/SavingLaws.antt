-- Laws of the parts of a job stored one after the other: that they are the bytes of its content.
use mathlib.Core.List.{List, [], ◌∷◌, ◌++◌, append_assoc}
use mathlib.Core.Path.{◌≡◌, refl, sym, ap, ap₂, ◌∙◌}
use Prim.Native.Nat.{ℕ, ◌+◌, ◌*◌, ◌≤◌, ◌<◌}
use native.Mathlib.Omega.{arith}
use borrow.Author.Tests.{lt-ltb, le-ltb, eq-eqb, ne_eqb}
use lib.ListN.{length, get_or, take, drop, length-append}
use lib.Seq.{sets}
use Rattle.words.proofs.Lists.{sets_then, sets-front}
use Rattle.words.specs.Bytes.{AreBytes}
use Rattle.words.specs.Number.{bytes}
use Rattle.std.specs.Prelude.{Ok, Err}
use Rattle.model.specs.Content.{Job, kind_count}
use Rattle.model.specs.Format.{board_at, classes_at, classes_stated, kinds_at, kinds_length, kinds_stated, class_from, by_rising_id, kind_bytes, content, refusal}
use Rattle.model.specs.Lists.{concat, below, rising}
use Rattle.model.specs.Saving.{board_record, class_record, class_list, kind_list, section_bytes, pointer_bytes, trailer_bytes, written}
use Rattle.model.specs.Services.{write_outcome, with_bytes, save_content}
use Rattle.model.specs.Services as Services
use Rattle.model.specs.Refusal.{number, numbered}
use Rattle.model.specs.declared.Refusal.{Refusal}
use Rattle.model.specs.declared.Refusal.TheVariants as R
use Rattle.model.proofs.AcceptedKinds.{kind-count}
use Rattle.model.proofs.Folds.{concat-below-more}
use Rattle.model.proofs.Saving.Copied.{board-copied, class-copied, kinds-copied}
use Rattle.model.proofs.Saving.Fields.{board-size, classes-size, written-size}
use Rattle.model.proofs.Saving.Kept.{classes-count, kinds-size}
use Rattle.records.specs.Classes.{classes_from}
use Rattle.records.specs.Rising.{classes_at_first, ByRisingId}
use Rattle.records.proofs.RisingLaws.{length-first, first-taken}
use Rattle.job.proofs.CauseLaws.{classes-are}
use Rattle.model.proofs.Numbered.{numbered_number}
use Rattle.job.proofs.ViewLaws.{some_number, six_none, inside}

-- ---- The class list

module _ (s places : List ℕ) (at : ℕ) where
  abbrev list_to : ℕ → List ℕ
  list_to k = class_list (classes_at_first s places k)

  pub classes-none : (a : List ℕ) → a ≡ sets a at (list_to 0)
  unfolding class_list concat below rising
  classes-none a = refl

  pub classes-more : (k : ℕ) (a u v : List ℕ) → get_or places k 0 + 3 ≤ length s → u ≡ sets a at (list_to k)
      → v ≡ sets u (at + k * 3) (take 3 (drop (get_or places k 0) s)) → v ≡ sets a at (list_to (k + 1))
  unfolding class_list
  classes-more k a u v h eu ev =
      let l = classes-size (classes_at_first s places k) in
      let m = length-first s places k in
      sets_then at (at + k * 3) (list_to k) (take 3 (drop (get_or places k 0) s)) a u v (omega arith) eu ev
      ∙ ap (λ r. sets a at (list_to k ++ r)) (sym (class-copied s (get_or places k 0) h))
      ∙ ap (sets a at) (sym (concat-below-more (λ i. class_from s (get_or places i 0)) class_record k))

  pub classes-all : (all : List ℕ) (o n k : ℕ) (a u : List ℕ) → k ≡ n → places ≡ take n all → ByRisingId s o n all
      → u ≡ sets a at (list_to k) → u ≡ sets a at (class_list (by_rising_id (classes_from s o n)))
  classes-all all o n k a u e t r eu =
      eu ∙ ap (λ m. sets a at (list_to m)) e ∙ ap (λ ps. sets a at (class_list (classes_at_first s ps n))) t
      ∙ ap (λ cs. sets a at (class_list cs)) (first-taken s all n ∙ r.classes)

-- ---- The trailer, field by field

pub offsets_written : (at kinds_at size : ℕ) (a u0 u1 u2 u3 : List ℕ) → u0 ≡ sets a at (bytes 2 0) → u1 ≡ sets u0 (at + 2) (bytes 2 6)
    → u2 ≡ sets u1 (at + 4) (bytes 2 kinds_at) → u3 ≡ sets u2 (at + 6) (bytes 2 size) → u3 ≡ sets a at (bytes 2 0 ++ bytes 2 6 ++ bytes 2 kinds_at ++ bytes 2 size)
unfolding bytes
offsets_written at kinds_at size a u0 u1 u2 u3 e0 e1 e2 e3 =
    let two : List ℕ = bytes 2 0 ++ bytes 2 6 in
    let three : List ℕ = two ++ bytes 2 kinds_at in
    let w1 : u1 ≡ sets a at two = sets_then at (at + 2) (bytes 2 0) (bytes 2 6) a u0 u1 refl e0 e1 in
    let w2 : u2 ≡ sets a at three = sets_then at (at + 4) two (bytes 2 kinds_at) a u1 u2 refl w1 e2 in
    sets_then at (at + 6) three (bytes 2 size) a u2 u3 refl w2 e3

pub counts-written : (at classes kinds whole : ℕ) (a u0 u1 u2 u3 u4 : List ℕ) → u0 ≡ sets a at (classes ∷ []) → u1 ≡ sets u0 (at + 1) (kinds ∷ [])
    → u2 ≡ sets u1 (at + 2) (bytes 2 whole) → u3 ≡ sets u2 (at + 4) (0x44 ∷ []) → u4 ≡ sets u3 (at + 5) (0x42 ∷ [])
    → u4 ≡ sets a at ((classes ∷ kinds ∷ []) ++ bytes 2 whole ++ (0x44 ∷ 0x42 ∷ []))
unfolding bytes
counts-written at classes kinds whole a u0 u1 u2 u3 u4 e0 e1 e2 e3 e4 =
    let counts : List ℕ = classes ∷ kinds ∷ [] in
    let three : List ℕ = counts ++ bytes 2 whole in
    let w1 : u1 ≡ sets a at counts = sets_then at (at + 1) (classes ∷ []) (kinds ∷ []) a u0 u1 refl e0 e1 in
    let w2 : u2 ≡ sets a at three = sets_then at (at + 2) counts (bytes 2 whole) a u1 u2 refl w1 e2 in
    let w3 : u3 ≡ sets a at (three ++ (0x44 ∷ [])) = sets_then at (at + 4) three (0x44 ∷ []) a u2 u3 refl w2 e3 in
    sets_then at (at + 5) (three ++ (0x44 ∷ [])) (0x42 ∷ []) a u3 u4 refl w3 e4

pub trailer_written : (classes kinds size : ℕ) (a u v : List ℕ)
    → u ≡ sets a (6 + classes * 3 + size) (bytes 2 0 ++ bytes 2 6 ++ bytes 2 (6 + classes * 3) ++ bytes 2 size)
    → v ≡ sets u (6 + classes * 3 + size + 8) ((classes ∷ kinds ∷ []) ++ bytes 2 (6 + classes * 3 + size + 14) ++ (0x44 ∷ 0x42 ∷ []))
    → v ≡ sets a (6 + classes * 3 + size) (trailer_bytes classes kinds size)
unfolding trailer_bytes pointer_bytes bytes
trailer_written classes kinds size a u v eu ev =
    sets_then (6 + classes * 3 + size) (6 + classes * 3 + size + 8) (bytes 2 0 ++ bytes 2 6 ++ bytes 2 (6 + classes * 3) ++ bytes 2 size)
    ((classes ∷ kinds ∷ []) ++ bytes 2 (6 + classes * 3 + size + 14) ++ (0x44 ∷ 0x42 ∷ [])) a u v refl eu ev

-- ---- The job

module _ (s : List ℕ) (b : AreBytes s) (e : refusal s ≡ 0) where
  board-is : (o : ℕ) → o ≡ board_at s → take 6 (drop o s) ≡ board_record (content s).sheet
  unfolding content
  board-is o eo = let i = (inside s (six_none s e)).board in ap (λ i. take 6 (drop i s)) eo ∙ sym (board-copied s b (omega arith))

  classes-is : (o n : ℕ) → o ≡ classes_at s → n ≡ classes_stated s → class_list (by_rising_id (classes_from s o n)) ≡ class_list (content s).classes
  unfolding content
  classes-is o n eo en = ap (λ cs. class_list (by_rising_id cs)) (ap₂ (classes_from s) eo en ∙ sym (classes-are s))

  kinds-is : (o size : ℕ) → o ≡ kinds_at s → size ≡ kinds_length s → take size (drop o s) ≡ kind_list (content s).kinds
  unfolding kind_bytes
  kinds-is o size eo es = ap₂ (λ n i. take n (drop i s)) es eo ∙ sym (kinds-copied s b e)

  trailer_is : (classes kinds size : ℕ) → classes ≡ classes_stated s → kinds ≡ kinds_stated s → size ≡ kinds_length s
      → trailer_bytes classes kinds size ≡ trailer_bytes (length (content s).classes) (length (content s).kinds) (length (kind_list (content s).kinds))
  unfolding kind_count
  trailer_is classes kinds size ec ek es = rw (ec ∙ sym (classes-count s e), ek ∙ sym (kind-count s e), es ∙ sym (kinds-size s e b))

  pub saved_size : length (written (content s)) ≡ 6 + classes_stated s * 3 + kinds_length s + 14
  saved_size = let w = written-size (content s) in let c = classes-count s e in let k = kinds-size s e b in omega arith

  pub job-written : (board classes kinds nc nk size : ℕ) (a u0 u1 u2 u3 : List ℕ)
      → board ≡ board_at s → classes ≡ classes_at s → kinds ≡ kinds_at s → nc ≡ classes_stated s → nk ≡ kinds_stated s → size ≡ kinds_length s
      → u0 ≡ sets a 0 (take 6 (drop board s)) → u1 ≡ sets u0 6 (class_list (by_rising_id (classes_from s classes nc)))
      → u2 ≡ sets u1 (6 + nc * 3) (take size (drop kinds s)) → u3 ≡ sets u2 (6 + nc * 3 + size) (trailer_bytes nc nk size)
      → u3 ≡ sets a 0 (written (content s))
  unfolding written section_bytes
  job-written board classes kinds nc nk size a u0 u1 u2 u3 eb ec ek enc enk es e0 e1 e2 e3 =
      let B : List ℕ = board_record (content s).sheet in
      let C : List ℕ = class_list (content s).classes in
      let K : List ℕ = kind_list (content s).kinds in
      let T : List ℕ = trailer_bytes (length (content s).classes) (length (content s).kinds) (length K) in
      let lc = classes-size (content s).classes in
      let nn = classes-count s e in
      let lk = kinds-size s e b in
      let lb : length B ≡ 6 = board-size (content s).sheet in
      let w0 : u0 ≡ sets a 0 B = e0 ∙ ap (sets a 0) (board-is board eb) in
      let w1 : u1 ≡ sets a 0 (B ++ C) = sets_then 0 6 B C a u0 u1 (omega arith) w0 (e1 ∙ ap (sets u0 6) (classes-is classes nc ec enc)) in
      let w2 : u2 ≡ sets a 0 (B ++ C ++ K) =
      sets_then 0 (6 + nc * 3) (B ++ C) K a u1 u2 (omega (arith, length-append B C)) w1 (e2 ∙ ap (sets u1 (6 + nc * 3)) (kinds-is kinds size ek es)) in
      sets_then 0 (6 + nc * 3 + size) (B ++ C ++ K) T a u2 u3 (omega (arith, length-append (B ++ C) K, length-append B C)) w2
      (e3 ∙ ap (sets u2 (6 + nc * 3 + size)) (trailer_is nc nk size enc enk es))
      ∙ ap (λ r. sets a 0 (r ++ T)) (append_assoc B C K)

pub save-short : (j : Job) (out : List ℕ) → length out < length (written j)
    → save_content j out ≡ write_outcome (Err R.Answer) out
unfolding save_content
save-short j out h = rw (lt-ltb _ _ h)

pub save-fits : (j : Job) (out : List ℕ) → length (written j) ≤ length out
    → save_content j out ≡ write_outcome (Ok (length (written j))) (sets out 0 (written j))
unfolding save_content with_bytes
save-fits j out h = rw (le-ltb _ _ h, sets-front (written j) out h)

module _ (s out : List ℕ) where
  pub save-refused : (r : Refusal) → number r ≡ refusal s → Services.save s out ≡ write_outcome (Err r) out
  unfolding Services.save
  save-refused r e =
      rw (
        ne_eqb (refusal s) 0 (λ z. some_number r (e
            ∙ z)),
        Services.save,
      ) (ap (λ q. write_outcome (Err q) out) (ap numbered (sym e) ∙ numbered_number r))

  pub save-accepted : refusal s ≡ 0 → Services.save s out ≡ save_content (content s) out
  unfolding Services.save
  save-accepted h = rw (eq-eqb (refusal s) 0 h, Services.save)
