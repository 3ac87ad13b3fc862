-- The definitions of answers speak of a `Refusal`; here of a refusal of any type.
use Rattle.std.specs.Prelude.{Result, Ok, Err}
use Rattle.model.specs.declared.Refusal.{Refusal}

-- What a definition says of an answer that is not refused, and of a refusal what is said beside it.
abbrev pub unless_refused : {A B E : Type 0} → (Result A Refusal → B) → (E → B) → Result A E → B
unless_refused f refused (Ok a) = f (Ok a)
unless_refused f refused (Err e) = refused e
