use Rattle.std.proofs.Common.{◌≡◌, refl, arith, rules, SFits, w64, ℕ, ℤ, pos, ◌^◌, ◌<◌, ◌-ℤ◌, ◌*ℤ◌, ◌≤ℤ◌}
use Rattle.std.proofs.lemmas.Int.{ints, to_z-of_z}
use Rattle.int_division.specs.Counts.{IsCount}
use Rattle.int_division.proofs.counts.left_of.Goals as goal

-- there is room for the multiple and for what is left
record HasRoom (n w : ℤ) (d : ℕ) : Type 0 where
  multiple : SFits w64 (w *ℤ pos d)
  left : SFits w64 (n -ℤ w *ℤ pos d)

room : (n w : ℤ) (d : ℕ) → pos 1 ≤ℤ (n -ℤ w *ℤ pos d) → (n -ℤ w *ℤ pos d) ≤ℤ pos d → IsCount n → d < 2 ^ 8
    → HasRoom n w d
room n w d from to count fits =
    record {
      multiple = omega (arith, ints, from, to, count.0, count.1, fits);
      left = omega
          (arith, ints, from, to, fits);
    }

pub overflow_mul-result : goal.overflow_mul-result
overflow_mul-result c =
    let fw : SFits w64 c.args.whole = c.ranges.whole in
    let ff : SFits w64 c.from.result = search rules in
    let e : c.from.result ≡ pos c.args.divisor = c.from.ensures in
    let r = room c.args.number c.args.whole c.args.divisor c.requires.from c.requires.to c.requires.number
    c.ranges.divisor.fits in
    let m : SFits w64 (c.args.whole *ℤ c.from.result) = rw e r.multiple in
    simp to_z-of_z m

pub overflow_sub-result : goal.overflow_sub-result
overflow_sub-result c =
    let fn : SFits w64 c.args.number = c.ranges.number in
    let fw : SFits w64 c.args.whole = c.ranges.whole in
    let ff : SFits w64 c.from.result = search rules in
    let e : c.from.result ≡ pos c.args.divisor = c.from.ensures in
    let r = room c.args.number c.args.whole c.args.divisor c.requires.from c.requires.to c.requires.number
    c.ranges.divisor.fits in
    let m : SFits w64 (c.args.whole *ℤ c.from.result) = rw e r.multiple in
    let s : SFits w64 (c.args.number -ℤ c.args.whole *ℤ c.from.result) = rw e r.left in
    simp to_z-of_z s

pub returns : goal.returns
returns c =
    let fn : SFits w64 c.args.number = c.ranges.number in
    let fw : SFits w64 c.args.whole = c.ranges.whole in
    let ff : SFits w64 c.from.result = search rules in
    let e : c.from.result ≡ pos c.args.divisor = c.from.ensures in
    let r = room c.args.number c.args.whole c.args.divisor c.requires.from c.requires.to c.requires.number
    c.ranges.divisor.fits in
    let m : SFits w64 (c.args.whole *ℤ c.from.result) = rw e r.multiple in
    let s : SFits w64 (c.args.number -ℤ c.args.whole *ℤ c.from.result) = rw e r.left in
    record { left = simp to_z-of_z (rw e refl) }
