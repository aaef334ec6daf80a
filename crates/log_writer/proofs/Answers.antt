-- What an append answers and leaves: refused, or with its trailer and then its fragments put. Assumes nothing.
use Rattle.std.specs.Prelude.{Result, Ok, Err}
use mathlib.Core.Path.{◌≡◌, refl, ap, ◌∙◌}
use Prim.Native.Nat.{ℕ, zero, suc, ◌+◌, ◌-◌, ◌≤◌}
use mathlib.Core.List.{List, ◌++◌}
use native.Mathlib.Omega.{arith}
use lib.ListN.{length, replicate, length-replicate}
use Rattle.log_format.specs.Format.Sizes.{left}
use Rattle.log_format.specs.Format.Fragment.{Edition, header}
use Rattle.log_format.specs.Format.Writing.{pad, added, size_added}
use Rattle.log_format.specs.Format.Refusals.{writer_says}
use Rattle.log_format.specs.Format.Calls.{refusal, verdict, Append, overwrite, append_by, append_of}
use Rattle.log_format.proofs.Laws.Spelling.{pad_left, body_size, size_long}
use Rattle.log_format.proofs.Laws.Refusals.{verdict_none}
use Rattle.log_format.proofs.Laws.Appends.{writer_fits}
use Rattle.log_writer.specs.Spelling.{spelling}
use Rattle.log_format.proofs.Laws.Overwrite.{overwrite_length, overwrite_more}
use Rattle.log_format.specs.declared.Refusal.{Refusal}

-- an append gives the answer a and leaves l
abbrev Gives : Append → Result ℕ Refusal → List ℕ → Type 0
Gives x a l = (a ≡ x.answer) × (l ≡ x.log)

abbrev trailer : Edition → ℕ → List ℕ
trailer e m = replicate (pad e m) 0

module _ (e : Edition) (log : List ℕ) (mark : ℕ) (d : List ℕ) where
  by_number : (x : Refusal) (k : ℕ) → Err x ≡ verdict mark k → Gives (append_by e log mark d k) (Err x) log
  by_number x zero h = let z : ◌≡◌ {A = ℕ} 0 1 = cc in absurd (omega arith)
  by_number x (suc k) h = let q : x ≡ refusal (suc k) mark = cc in (ap Err q, refl)

  pub refuses : {x : Refusal} → Err x ≡ verdict mark (writer_says e log mark d) → Gives (append_of e log mark d) (Err x) log
  unfolding append_of
  refuses {x} h = by_number x (writer_says e log mark d) h

  module _ (h : Ok tt ≡ verdict mark (writer_says e log mark d)) where
    says : writer_says e log mark d ≡ 0
    says = verdict_none mark (writer_says e log mark d) h

    room_for : size_added e mark (length d) ≤ length log - mark
    room_for = (writer_fits e log mark d says).1

    pub trailer-fits : mark + pad e mark ≤ length log
    trailer-fits = omega (arith, room_for, size_long e mark d)

    zeros-fit : mark + length (trailer e mark) ≤ length log
    zeros-fit = rw length-replicate trailer-fits

    -- the trailer is put, and the first fragment starts at o
    module _ {o : ℕ} {log₁ : List ℕ} (q : o ≡ mark + pad e mark) (w : log₁ ≡ overwrite log mark (trailer e mark)) where
      spelling-size : pad e mark + length (spelling e o d) ≡ size_added e mark (length d)
      spelling-size = rw q (body_size e mark d)

      kept : length log₁ ≡ length log
      kept = ap length w ∙ overwrite_length log (trailer e mark) mark zeros-fit

      pub write-fits : (header e ≤ left o) × (o + length (spelling e o d) ≤ length log₁)
      write-fits = (rw q (pad_left e mark), omega (arith, room_for, size_long e mark d, spelling-size, kept))

      pub accepts : {z : ℕ} {log₂ : List ℕ} → z ≡ o + length (spelling e o d) → log₂ ≡ overwrite log₁ o (spelling e o d)
          → Gives (append_of e log mark d) (Ok z) log₂
      accepts {z} {log₂} a b = unfold append_of in rw says (ap Ok until, both)
        where
          until : z ≡ mark + size_added e mark (length d)
          until = omega (arith, spelling-size)

          both : log₂ ≡ overwrite log mark (added e mark d)
          both =
              b ∙ ap (λ (l : List ℕ). overwrite l o (spelling e o d)) w
              ∙ overwrite_more log (trailer e mark) mark zeros-fit (spelling e o d) o (rw length-replicate q)
              ∙ unfold added in ap (λ (m : ℕ). overwrite log mark (trailer e mark ++ spelling e m d)) q
