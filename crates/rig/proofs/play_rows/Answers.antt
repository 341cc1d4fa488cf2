-- `rig::play_rows` meets its contract. Assumes nothing.
use mathlib.Core.Path.{refl, ◌∙◌}
use native.Mathlib.Omega.{arith}
use borrow.Author.Rules.{rules}
use Rattle.std.proofs.lemmas.List.{length_push}
use Rattle.rig.proofs.Laws.{played_as_lem}
use Rattle.rig.proofs.Playing.{begins_unpowered, plays_first, inside, plays_again, plays_end}
use Rattle.rig.proofs.Offers.{says_it, Does, offer_does, drain_does, write_does, power_does, recover_does, reset_does, flush_does}
use Rattle.rig.proofs.play_rows.Goals as goal
use Rattle.rig.proofs.play_rows.Goals.{in-Offer, in-Drain, in-Write, in-Power, in-Recover, in-Reset, in-Flush}

pub loop-i-init : goal.loop-i-init
loop-i-init c =
    record {
      plays = plays_first _ _ _ _ _ _ (begins_unpowered _ _ _ c.new.ensures c.new-2.ensures c.unreported-played.ensures) c.requires (search rules);
      size = search rules;
      count = search rules;
      fits = search rules;
    }

pub tell-requires : goal.tell-requires
tell-requires c =
    let p = c.loop-i.invariant in
    let s = c.in-Some.ensures.steps in
    let l = inside _ _ _ _ _ _ _ _ p.plays _ _ s.0.1.0 (s.0.1.1 ∙ p.size) in
    let does : Does c.args.capacity_bytes c.loop-i.image c.loop-i.played.bench c.unwrap.result c.match-unwrap.image c.match-unwrap.played =
    elim c.match-unwrap.branch [
      | in-Offer w ↦ offer_does _ _ _ _ _ _ _ _ w.in-Offer.is w.played-is w.offer.ensures w.image-is
      | in-Drain w ↦
          drain_does _ _ _ _ _ _ _ _ _ w.in-Drain.is w.played-is w.drain.ensures.value (w.image-is ∙ w.drain.ensures.lent)
      | in-Write w ↦
          write_does _ _ _ _ _ _ _ _ _ _ w.in-Write.is w.played-is w.write.ensures.value (w.image-is ∙ w.write.ensures.lent)
      | in-Power w ↦ power_does _ _ _ _ _ _ _ w.in-Power.is w.played-is w.power_on.ensures w.image-is
      | in-Recover w ↦
          recover_does _ _ _ _ _ _ _ _ _ w.played-is w.default-played.ensures w.image-is _ _ _ w.in-Recover.is
          w.recover-played.ensures refl
      | in-Reset w ↦
          reset_does _ _ _ _ _ _ _ _ _ w.played-is w.default-played-in-Reset.ensures w.image-is w.in-Reset.is
          w.reset_after_erase-played.ensures refl
      | in-Flush w ↦
          flush_does _ _ _ _ _ _ _ _ _ w.played-is w.default-played-in-Flush.ensures w.image-is _ _ _ w.in-Flush.is
          w.flush_write_back-answer.ensures refl w.from.ensures
    ]
    in
    (played_as_lem _ _ _ _ _ does.bench p.plays.sound, omega (arith, l, s.1, p.count, p.fits))

pub loop-i-preserved : goal.loop-i-preserved
loop-i-preserved c =
    let p = c.loop-i.invariant in
    let s = c.in-Some.ensures.steps in
    let m = length_push c.loop-i.yielded (c.in-Some.i, c.in-Some.row) in
    let does : Does c.args.capacity_bytes c.loop-i.image c.loop-i.played.bench c.unwrap.result c.match-unwrap.image c.match-unwrap.played =
    elim c.match-unwrap.branch [
      | in-Offer w ↦ offer_does _ _ _ _ _ _ _ _ w.in-Offer.is w.played-is w.offer.ensures w.image-is
      | in-Drain w ↦
          drain_does _ _ _ _ _ _ _ _ _ w.in-Drain.is w.played-is w.drain.ensures.value (w.image-is ∙ w.drain.ensures.lent)
      | in-Write w ↦
          write_does _ _ _ _ _ _ _ _ _ _ w.in-Write.is w.played-is w.write.ensures.value (w.image-is ∙ w.write.ensures.lent)
      | in-Power w ↦ power_does _ _ _ _ _ _ _ w.in-Power.is w.played-is w.power_on.ensures w.image-is
      | in-Recover w ↦
          recover_does _ _ _ _ _ _ _ _ _ w.played-is w.default-played.ensures w.image-is _ _ _ w.in-Recover.is
          w.recover-played.ensures refl
      | in-Reset w ↦
          reset_does _ _ _ _ _ _ _ _ _ w.played-is w.default-played-in-Reset.ensures w.image-is w.in-Reset.is
          w.reset_after_erase-played.ensures refl
      | in-Flush w ↦
          flush_does _ _ _ _ _ _ _ _ _ w.played-is w.default-played-in-Flush.ensures w.image-is _ _ _ w.in-Flush.is
          w.flush_write_back-answer.ensures refl w.from.ensures
    ]
    in
    record {
      plays =
          plays_again _ _ _ _ _ _ _ _ p.plays _ _ s.0.1.0 (s.0.1.1 ∙ p.size) _ _ _ _ _ _ _ (s.1 ∙ p.count) m (says_it _ _ _ c.of.ensures.says c.unwrap.ensures) does.bench
          refl does.picture c.tell.ensures c.tell.auto.output;
      size = s.0.0 ∙ p.size;
      count = omega (arith, s.2, p.count, m);
      fits = p.fits;
    }

pub returns : goal.returns
returns c =
    let p = c.loop-i.invariant in
    let e = plays_end _ _ _ _ _ _ _ _ p.plays (omega (arith, c.in-None.ensures.steps.0.1.0, p.size)) in
    record { image_after = e.returned; output_after = e.left }
