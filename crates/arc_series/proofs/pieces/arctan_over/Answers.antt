use Rattle.std.proofs.Common.{arith, rules, SFits, [], ◌∷◌}
use Rattle.std.specs.Int.{w128}
use Rattle.std.proofs.lemmas.Int.{ints, to_z-of_z}
use Rattle.book_model.specs.programs.Leading.{units_of_56}
use Rattle.book_model.specs.numbers.Arcs.{far_below, below, near, above, far_above}
use Rattle.arc_series.specs.Forms.{of_span}
use Rattle.arc_series.specs.Widths.{no_begin, edge_below, edge_near_below, edge_near_above, edge_above, no_end}
use Rattle.arc_series.proofs.HeldArcs.{some_held, more_held}
use Rattle.arc_series.proofs.ArcParts.{all_over}
use Rattle.arc_series.proofs.pieces.arctan_over.Goals as goal

pub returns : goal.returns
returns c =
    let fl : SFits w128 c.args.span.lo = search rules in
    let fh : SFits w128 c.args.span.hi = search rules in
    record {
      holds =
          some_held of_span c.args.span.lo c.args.span.hi _ c.args.span.ordered (λ n d.
          let p = simp to_z-of_z at (c.arc_over.ensures.holds n d) in
          let q = simp to_z-of_z at (c.arc_over-2.ensures.holds n d) in
          let r = simp to_z-of_z at (c.arc_over-3.ensures.holds n d) in
          let s = simp to_z-of_z at (c.arc_over-4.ensures.holds n d) in
          let t = simp to_z-of_z at (c.arc_over-5.ensures.holds n d) in
          let from = units_of_56 c.args.span.lo in
          let to = units_of_56 c.args.span.hi in
          let positive = more_held of_span n from to above (far_above ∷ []) _
          (c.hull_of_spans-positive.ensures.holds _ _ p q) in
          let later = more_held of_span n from to near (above ∷ far_above ∷ []) _
          (c.hull_of_spans-later.ensures.holds _ _ r positive) in
          let most = more_held of_span n from to below (near ∷ above ∷ far_above ∷ []) _
          (c.hull_of_spans-most.ensures.holds _ _ s later) in
          more_held of_span n from to far_below (below ∷ near ∷ above ∷ far_above ∷ []) _
          (c.hull_of_spans.ensures.holds _ _ t most));
      narrow =
          let lo = c.args.span.lo in
          let hi = c.args.span.hi in
          let o = c.args.span.ordered in
          let p = simp to_z-of_z at c.arc_over.ensures.narrow in
          let q = simp to_z-of_z at c.arc_over-2.ensures.narrow in
          let r = simp to_z-of_z at c.arc_over-3.ensures.narrow in
          let s = simp to_z-of_z at c.arc_over-4.ensures.narrow in
          let t = simp to_z-of_z at c.arc_over-5.ensures.narrow in
          let positive =
          c.hull_of_spans-positive.ensures.narrow edge_near_above edge_above no_end 80 80 lo hi o (omega (arith, ints))
          (omega (arith, ints)) p q in
          let later =
          c.hull_of_spans-later.ensures.narrow edge_near_below edge_near_above no_end 80 200 lo hi o
          (omega (arith, ints)) (omega (arith, ints)) r positive in
          let most = c.hull_of_spans-most.ensures.narrow edge_below edge_near_below no_end 80 320 lo hi o
          (omega (arith, ints)) (omega (arith, ints)) s later in
          all_over lo hi _ o (omega (arith, ints, fl)) (omega (arith, ints, fh))
          (c.hull_of_spans.ensures.narrow no_begin edge_below no_end 80 440 lo hi o (omega (arith, ints))
          (omega (arith, ints)) t most);
    }
