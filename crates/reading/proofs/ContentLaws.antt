-- Laws of the numbers of an accepted job's content: how many they are, and that those written in parts are all of them.
use mathlib.Core.List.{List, [], ◌∷◌, ◌++◌, map, append_assoc}
use mathlib.Core.Path.{◌≡◌, refl, sym, ap, ap₂, ◌∙◌}
use Prim.Native.Nat.{ℕ, ◌+◌, ◌*◌, ◌-◌, ◌/◌, ◌<◌, ◌≤◌}
use native.Mathlib.Nat.{add-zero}
use native.Mathlib.Omega.{arith}
use borrow.Author.Tests.{lt-ltb, le-ltb, eq-eqb, ne_eqb}
use lib.ListN.{length, length-append, take, drop}
use Rattle.words.specs.Number.{count}
use Rattle.std.specs.Prelude.{Ok, Err}
use Rattle.model.specs.Content.{kind_count, piece_count}
use Rattle.model.specs.Format.{word_at, board_at, board_of, classes_at, classes_stated, by_rising_id, kinds_at, kinds_length, kinds_stated, kind_bytes, kinds_got, read_kind, content, refusal}
use Rattle.model.specs.Lists.{concat, below, rising}
use Rattle.model.specs.Services.{write_outcome, numbers_in, with_numbers, kind_numbers, content_numbers, read_content}
use Rattle.model.specs.Services as Services
use Rattle.model.specs.Refusal.{number, numbered}
use Rattle.model.specs.declared.Refusal.{Refusal}
use Rattle.model.specs.declared.Refusal.TheVariants as R
use Rattle.model.proofs.Readers.{many-sum}
use Rattle.model.proofs.Saving.Kept.{classes-count}
use Rattle.records.specs.Classes.{classes_from}
use Rattle.reading.specs.Write.{front_numbers, back_numbers, classes_numbers, kinds_numbers}
use Rattle.writing.specs.Numbers.{with_numbers_at, words_from}
use Rattle.job.proofs.CauseLaws.{classes-are}
use Rattle.reading.proofs.ListingLaws.{kind-each}
use Rattle.records.proofs.RecordLaws.{values_from}
use Rattle.reading.proofs.ClassLaws.{length-classes}
use Rattle.model.proofs.Numbered.{numbered_number}
use Rattle.job.proofs.ViewLaws.{some_number, six_none, kinds-in, got-list, kind-count, length-list, list_reads}
use Rattle.reading.proofs.WriteLaws.{records_length}
use Rattle.writing.proofs.NumberLaws.{numbers_then, numbers_all}

-- The three numbers of the board record at byte o.
abbrev board_numbers : ℕ → List ℕ → List ℕ
board_numbers o s = word_at s o ∷ word_at s (o + 2) ∷ word_at s (o + 4) ∷ []

three_words : (s : List ℕ) (o : ℕ) → words_from o 3 s ≡ board_numbers o s
unfolding below rising
three_words s o = rw (add-zero o)

module _ (s : List ℕ) (e : refusal s ≡ 0) where
  -- ---- In front

  front_is : (o m n : ℕ) → o ≡ board_at s → m ≡ classes_at s → n ≡ classes_stated s
      → board_numbers o s ++ (n ∷ []) ++ classes_numbers (by_rising_id (classes_from s m n)) ≡ front_numbers (content s)
  unfolding content board_of
  front_is o m n eo em en =
      ap (λ x. board_numbers x s ++ (n ∷ []) ++ classes_numbers (by_rising_id (classes_from s m n))) eo
      ∙ ap₂ (λ y cs. board_numbers (board_at s) s ++ (y ∷ []) ++ classes_numbers (by_rising_id cs)) (en ∙ sym (classes-count s e))
      (ap₂ (classes_from s) em en ∙ sym (classes-are s))

  pub front_written : (o m n : ℕ) (a u v w : List ℕ) → o ≡ board_at s → m ≡ classes_at s → n ≡ classes_stated s
      → u ≡ with_numbers_at 0 (words_from o 3 s) a → v ≡ with_numbers_at 3 (n ∷ []) u → w ≡ with_numbers_at 4 (classes_numbers (by_rising_id (classes_from s m n))) v
      → w ≡ with_numbers_at 0 (front_numbers (content s)) a
  front_written o m n a u v w eo em en eu ev ew =
      numbers_then 0 4 (board_numbers o s ++ (n ∷ [])) (classes_numbers (by_rising_id (classes_from s m n))) a v w refl
      (numbers_then 0 3 (board_numbers o s) (n ∷ []) a u v refl (eu ∙ ap (λ r. with_numbers_at 0 r a) (three_words s o)) ev) ew
      ∙ ap (λ r. with_numbers_at 0 r a) (front_is o m n eo em en)

  pub front_length : length (front_numbers (content s)) ≡ 4 + classes_stated s * 4
  front_length = let c = classes-count s e in let l = length-classes (content s).classes in omega arith

  -- ---- Behind

  kinds-length : length (concat (map kind_numbers (content s).kinds)) ≡ kinds_length s
  unfolding kinds_got
  kinds-length = many-sum read_kind kind_numbers kind-each (kinds_stated s) (kind_bytes s) _ _ (kinds-in s (six_none s e)).reads

  pub back_length : length (back_numbers (content s)) ≡ 2 + kinds_length s
  back_length =
      let l = kinds-length in
      length-append (kind_count (content s).kinds ∷ concat (map kind_numbers (content s).kinds)) (piece_count (content s).kinds ∷ []) ∙ (omega arith)

  module _ (base size n : ℕ) (eb : base ≡ kinds_at s) (es : size ≡ kinds_length s) (en : n ≡ kinds_stated s) where
    abbrev list : List ℕ
    list = take (base + size - base) (drop base s)

    back_is : (p : ℕ) → p ≡ piece_count (content s).kinds → (n ∷ []) ++ kinds_numbers n list ++ (p ∷ []) ≡ back_numbers (content s)
    back_is p ep =
        ap (λ l. (n ∷ []) ++ concat (map kind_numbers l) ++ (p ∷ [])) (values_from _ _ _ (got-list s (six_none s e) base size n eb es en))
        ∙ ap₂ (λ i q. (i ∷ []) ++ concat (map kind_numbers (content s).kinds) ++ (q ∷ [])) (sym (kind-count s (six_none s e) base size n eb es en)) ep

    pub back_written : (at p : ℕ) (a u v w : List ℕ) → p ≡ piece_count (content s).kinds
        → u ≡ with_numbers_at at (n ∷ []) a → v ≡ with_numbers_at (at + 1) (kinds_numbers n list) u → w ≡ with_numbers_at (at + 1 + size) (p ∷ []) v
        → w ≡ with_numbers_at at (back_numbers (content s)) a
    back_written at p a u v w ep eu ev ew =
        let r = list_reads s (six_none s e) base size n eb es en in
        let l : length (kinds_numbers n list) ≡ length list = records_length read_kind kind_numbers kind-each n (length list) list r in
        let z = length-list s (six_none s e) base size n eb es en in
        numbers_then at (at + 1 + size) ((n ∷ []) ++ kinds_numbers n list) (p ∷ []) a v w (omega arith)
        (numbers_then at (at + 1) (n ∷ []) (kinds_numbers n list) a u v refl eu ev) ew
        ∙ ap (λ r. with_numbers_at at r a) (back_is p ep)

  -- ---- All

  content-is : content_numbers (content s) ≡ front_numbers (content s) ++ back_numbers (content s)
  unfolding content_numbers
  content-is =
      append_assoc (front_numbers (content s)) (kind_count (content s).kinds ∷ concat (map kind_numbers (content s).kinds)) (piece_count (content s).kinds ∷ [])

  pub content-length : length (content_numbers (content s)) ≡ 4 + classes_stated s * 4 + 2 + kinds_length s
  content-length =
      let f = front_length in
      let b = back_length in
      ap length content-is ∙ length-append (front_numbers (content s)) (back_numbers (content s)) ∙ (omega arith)

  pub content-few : (out : List ℕ) → length out / 2 < length (content_numbers (content s))
      → read_content (content s) out ≡ write_outcome (Err R.Answer) out
  unfolding read_content numbers_in count
  content-few out h = rw (lt-ltb _ _ h)

  pub content-fits : (out : List ℕ) → length (content_numbers (content s)) ≤ length out / 2
      → read_content (content s) out
      ≡ write_outcome (Ok (length (content_numbers (content s)))) (with_numbers (content_numbers (content s)) out)
  unfolding read_content numbers_in count
  content-fits out h = rw (le-ltb _ _ h)

  pub content-written : (at : ℕ) (a u v : List ℕ) → at ≡ 4 + classes_stated s * 4 → length (content_numbers (content s)) * 2 ≤ length a → u ≡ with_numbers_at 0 (front_numbers (content s)) a
      → v ≡ with_numbers_at at (back_numbers (content s)) u → v ≡ with_numbers (content_numbers (content s)) a
  unfolding with_numbers
  content-written at a u v ea h eu ev =
      let f = front_length in
      numbers_then 0 at (front_numbers (content s)) (back_numbers (content s)) a u v (omega arith) eu ev
      ∙ ap (λ r. with_numbers_at 0 r a) (sym content-is) ∙ numbers_all (content_numbers (content s)) a h

module _ (s out : List ℕ) where
  pub read-refused : (r : Refusal) → number r ≡ refusal s → Services.read s out ≡ write_outcome (Err r) out
  unfolding Services.read
  read-refused r e =
      rw (
        ne_eqb (refusal s) 0 (λ z. some_number r (e
            ∙ z)),
        Services.read,
      ) (ap (λ q. write_outcome (Err q) out) (ap numbered (sym e) ∙ numbered_number r))

  pub read-accepted : refusal s ≡ 0 → Services.read s out ≡ read_content (content s) out
  unfolding Services.read
  read-accepted h = rw (eq-eqb (refusal s) 0 h, Services.read)
