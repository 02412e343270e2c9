use Rattle.book_model.specs.sky.Horizon.{reached_offset_of}
use Rattle.book_model.proofs.Leads.{leads_on, leads_bind_exact, leaf_within}
use Rattle.rise_set.proofs.offsets.reached_offset.Goals as goal

pub returns : goal.returns
unfolding reached_offset_of
returns g c = record {
  leads = λ w a x h k.
      let l = c.in_ok-there.ensures.leads w a x h k in
      let o = c.in_ok-out.ensures.leads w _ (leaf_within l) in
      leads_on _ l (leads_bind_exact _ o (c.if_reached.ensures.leads w _ (leaf_within l)));
}
