-- The bytes of what was read are those that it was read from.
use mathlib.Core.Bool.{Bool, true, false}
use mathlib.Core.List.{List, [], ◌∷◌, ◌++◌, map}
use mathlib.Core.Path.{◌≡◌, refl, sym, ap, ap₂, ◌∙◌}
use Prim.Native.Nat.{ℕ, zero, suc, ◌+◌, ◌*◌, ◌-◌, ◌≤◌}
use native.Mathlib.Nat.{add-zero}
use native.Mathlib.Numerals.{add-one}
use native.Mathlib.Omega.{arith}
use lib.ListN.{length, take, drop, length-drop}
use lib.Seq.{take-suc, take-add, take-take, drop-drop, get_or-drop}
use Rattle.words.proofs.Lists.{bytes_take, bytes_drop}
use Rattle.words.proofs.Place.{bytes-number_at}
use Rattle.words.specs.Bytes.{AreBytes}
use Rattle.words.specs.Number.{bytes}
use Rattle.model.specs.Content.{Part, Kind}
use Rattle.model.specs.Format.{byte_at, word_at, board_at, kinds_at, kinds_length, kinds_stated, board_of, marks_cut, class_of_bytes, class_from, kind_bytes, kinds_got, Got, got, many, vertices, read_part, read_kind, content, refusal}
use Rattle.model.specs.Lists.{concat, rising, below}
use Rattle.model.specs.Saving.{board_record, gap_byte, class_record, vertex_bytes, part_bytes, kind_record, kind_list}
use Rattle.model.proofs.Causes.{no_cause, kinds-fit}
use Rattle.model.proofs.CommonCut.{meant, marks}
use Rattle.model.proofs.Folds.{map-below-more}
use Rattle.model.proofs.Readers.{many-holds}
use Rattle.model.proofs.Records.{length-vertices, part-read, kind-read}
use Rattle.model.proofs.Saving.Signed.{byte_written}

-- The k bytes from byte o on, one by one.
bytes-there : (s : List ℕ) (o k : ℕ) → o + k ≤ length s → take k (drop o s) ≡ map (λ i. byte_at s (o + i)) (below k)
unfolding byte_at below rising
bytes-there s o zero h = refl
bytes-there s o (suc k) h =
    take-suc (drop o s) k 0 (omega (arith, length-drop o s))
    ∙ ap₂ (λ bs b. bs ++ (b ∷ [])) (bytes-there s o k (omega arith)) (get_or-drop o s k 0)
    ∙ sym (map-below-more (λ i. byte_at s (o + i)) k)
    ∙ ap (λ m. map (λ i. byte_at s (o + i)) (below m)) (add-one k)

-- ---- Board and classes

pub board-copied : (s : List ℕ) → AreBytes s → board_at s + 6 ≤ length s → board_record (board_of s) ≡ take 6 (drop (board_at s) s)
unfolding board_record board_of word_at
board-copied s b h =
    let o : ℕ = board_at s in
    let two : (i : ℕ) → i + 2 ≤ length s → bytes 2 (word_at s i) ≡ take 2 (drop i s) = λ i l. bytes-number_at 2 s i b l in
    rw (two o (omega arith), two (o + 2) (omega arith), two (o + 4) (omega arith), ← drop-drop 2 o s, ← drop-drop 4 o s)
    (sym (take-add 4 2 (drop o s) ∙ ap (λ l. l ++ take 2 (drop 4 (drop o s))) (take-add 2 2 (drop o s))))

-- The gap byte of a class that was read is the byte that it was read from, whatever that is.
gap-copied : (i r b : ℕ) → gap_byte (class_of_bytes i r b) ≡ b
unfolding gap_byte
gap-copied i r b = go (marks_cut b) refl
  where
    go : (t : Bool) → marks_cut b ≡ t → gap_byte (class_of_bytes i r b) ≡ b
    go true e = let m = meant b true e in let l = marks b e in rw e (omega arith)
    go false e = rw e (meant b false e)

pub class-copied : (s : List ℕ) (o : ℕ) → o + 3 ≤ length s → class_record (class_from s o) ≡ take 3 (drop o s)
unfolding class_record below rising
class-copied s o h =
    ap₂ (λ i g. byte_at s i ∷ byte_at s (o + 1) ∷ g ∷ []) (sym (add-zero o)) (gap-copied (byte_at s o) (byte_at s (o + 1)) (byte_at s (o + 2)))
    ∙ sym (bytes-there s o 3 h)

-- ---- Records, one after the other

-- Where the bytes of each value that can be read are those it was read from, so are the bytes of several.
many-copied : {A : Type 0} (f : List ℕ → Got A) (enc : A → List ℕ) → ((s : List ℕ) (a : A) (k : ℕ) → AreBytes s → f s ≡ got a k → enc a ≡ take k s)
    → (n : ℕ) (s : List ℕ) (xs : List A) (m : ℕ) → many f n s ≡ got xs m → AreBytes s → concat (map enc xs) ≡ take m s
unfolding concat
many-copied f enc each =
    many-holds f (λ n s xs m. AreBytes s → concat (map enc xs) ≡ take m s) (λ s b. refl)
    (λ n s a k xs m e h b. ap₂ (λ p q. p ++ q) (each s a k b e) (h (bytes_drop k s b)) ∙ sym (take-add k m s))

-- ---- Types

corners-copied : (n : ℕ) (s : List ℕ) → AreBytes s → n * 2 ≤ length s → concat (map vertex_bytes (vertices n s)) ≡ take (n * 2) s
unfolding vertices concat vertex_bytes byte_at
corners-copied zero s b h = refl
corners-copied (suc n) [] b h = absurd (omega arith)
corners-copied (suc n) (x ∷ []) b h = absurd (omega arith)
corners-copied (suc n) (x ∷ y ∷ s) b h =
    let q : suc n * 2 ≡ suc (suc (n * 2)) = omega arith in
    rw (byte_written x (b 0), byte_written y (b 1), corners-copied n s (λ i. b (suc (suc i))) (omega arith), q)

part-copied : (s : List ℕ) (P : Part) (k : ℕ) → AreBytes s → read_part s ≡ got P k → part_bytes P ≡ take k s
unfolding part_bytes below rising
part-copied s P k b e =
    let r = part-read s P k e in
    let n : ℕ = byte_at s 0 in
    let corners : concat (map vertex_bytes P) ≡ take (n * 2) (drop 1 s) =
    ap (λ Q. concat (map vertex_bytes Q)) r.value ∙ corners-copied n (drop 1 s) (bytes_drop 1 s b) (omega (arith, length-drop 1 s, r.inside)) in
    let count : length P ∷ [] ≡ take 1 s =
    ap (λ m. m ∷ []) (ap length r.value ∙ length-vertices n (drop 1 s)) ∙ sym (bytes-there s 0 1 (omega (arith, r.inside))) in
    ap₂ (λ p q. p ++ q) count corners ∙ sym (take-add 1 (n * 2) s) ∙ ap (λ m. take m s) (sym r.size)

kind-copied : (s : List ℕ) (k : Kind) (m : ℕ) → AreBytes s → read_kind s ≡ got k m → kind_record k ≡ take m s
unfolding kind_record below rising
kind-copied s k m b e =
    let r = kind-read s k m e in
    let fields : k.demand ∷ k.rotations ∷ k.classes ∷ length k.parts ∷ [] ≡ take 4 s =
    rw (r.demand, r.rotations, r.classes, r.part_count) (sym (bytes-there s 0 4 (omega (arith, r.head_there)))) in
    let size : 4 + (m - 4) ≡ m = omega (arith, r.head) in
    ap₂ (λ p q. p ++ q) fields (many-copied read_part part_bytes part-copied _ _ _ _ r.parts (bytes_drop 4 s b))
    ∙ sym (take-add 4 (m - 4) s) ∙ ap (λ n. take n s) size

-- The type list of an accepted job, written, is that of the job: "types as given".
pub kinds-copied : (s : List ℕ) → AreBytes s → refusal s ≡ 0 → kind_list (content s).kinds ≡ kind_bytes s
unfolding kind_list kind_bytes kinds_got
kinds-copied s b e =
    let list : List ℕ = drop (kinds_at s) s in
    many-copied read_kind kind_record kind-copied (kinds_stated s) (take (kinds_length s) list) _ _ (kinds-fit s (no_cause s e).no6).reads
    (bytes_take (kinds_length s) list (bytes_drop (kinds_at s) s b))
    ∙ take-take (kinds_length s) (kinds_length s) list (omega arith)
