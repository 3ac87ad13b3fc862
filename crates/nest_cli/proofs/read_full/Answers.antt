-- `nest_cli::read_full` meets its contract: what a read gives stands behind what earlier reads gave.
use Rattle.std.specs.declared.option.Option.{Option}
use Rattle.std.specs.Io.KnownBytes.{Consumes}
use Rattle.std.proofs.Common.{◌≡◌, ℕ, ◌+◌, ◌≤◌, List, ◌++◌, rules, length, take, sym, ap, ◌∙◌, subst}
use Rattle.std.proofs.lemmas.List.{take-append-le, length-take-le}
use Rattle.std.proofs.KnownBytes.{Consumes-trans}
use Rattle.std.proofs.Math.Seq.{take-append-add}
use Rattle.nest_cli.proofs.read_full.Goals as goal

-- A reader gave the first `at` bytes of xs, and then n more, which were put behind those.
more : (a b c : Option (List ℕ)) (at n : ℕ) (xs part rest : List ℕ) → at ≤ length xs → n ≤ length part
    → Consumes a b (take at xs) → Consumes b c (take n part) → Consumes a c (take (at + n) (take at xs ++ (part ++ rest)))
more a b c at n xs part rest within fits first second =
    let both : take (at + n) (take at xs ++ (part ++ rest)) ≡ take at xs ++ take n part =
    ap (λ m. take (m + n) (take at xs ++ (part ++ rest))) (sym (length-take-le at xs within))
    ∙ take-append-add (take at xs) (part ++ rest) n
    ∙ ap (λ l. take at xs ++ l) (take-append-le n part rest fits) in
    subst (Consumes a c) (sym both) (Consumes-trans a b c _ _ first second)

pub loop-len-preserved : goal.loop-len-preserved
loop-len-preserved g c =
    let within = c.loop-len.invariant.within in
    record {
      within = search rules;
      bytes = more _ _ _ _ _ _ c.read.new.buf _ within c.in_ok-n.ensures.bound.0 c.loop-len.invariant.bytes c.in_ok-n.ensures.bytes.0;
    }
