use mathlib.Core.Path.{refl, ◌∙◌, ap}
use mathlib.Core.Bool.{true, false}
use Rattle.model.specs.declared.Call.TheVariants.{Tick}
use Rattle.model.specs.declared.Outcome.{Outcome}
use Rattle.rules.specs.Sound.{sound}
use Rattle.sabre.proofs.SoundAreas.{short_unfit, long_fit, fit_area_lem}
use Rattle.sabre.proofs.CallLaws.{unfit_by, refused_1, answered_slot, settled, listed, unfit_list}
use Rattle.sabre.proofs.tick.Goals as goal

pub returns-then-area-lt65536 : goal.returns-then-area-lt65536
returns-then-area-lt65536 c =
    let a = c.args.area.now in
    let u = unfit_by a (Tick c.args.room) false refl (short_unfit a c.if-area-lt65536.true) in
    let p = refused_1 a (Tick c.args.room) _ _ u c.refuse.ensures.0 c.refuse.ensures.1 in
    record { returned = p.returned; told = p.told; left = p.left; listed = unfit_list a (Tick c.args.room) _ u }

pub is_area_sound-requires : goal.is_area_sound-requires
is_area_sound-requires c = c.if-area-lt65536.false

pub tick-o-requires : goal.tick-o-requires
tick-o-requires c =
    (ap sound c.decode-s.ensures.0 ∙ (fit_area_lem c.args.area.now (long_fit c.args.area.now _ _ _ c.if-area-lt65536.false c.decode-s.ensures.0 c.decode-s.ensures.1 refl _ c.is_area_sound.ensures ∙ c.if-is_area_sound.true)).sound_state, c.requires)

pub settle-requires : goal.settle-requires
settle-requires c =
    let d = c.decode-s in
    (c.if-area-lt65536.false, answered_slot c.args.area.now (Tick c.args.room) d.result d.ensures.0 _ (long_fit c.args.area.now _ _ _ c.if-area-lt65536.false c.decode-s.ensures.0 c.decode-s.ensures.1 refl _ c.is_area_sound.ensures ∙ c.if-is_area_sound.true) (ap (λ (x : Outcome). x.answer) c.tick-o.ensures.0))

pub returns-then-is_area_sound : goal.returns-then-is_area_sound
returns-then-is_area_sound c =
    let e = c.settle.ensures in
    let a = c.args.area.now in
    let d = c.decode-s in
    let u = unfit_by a (Tick c.args.room) true refl (long_fit c.args.area.now _ _ _ c.if-area-lt65536.false c.decode-s.ensures.0 c.decode-s.ensures.1 refl _ c.is_area_sound.ensures ∙ c.if-is_area_sound.true) in
    let p = settled a (Tick c.args.room) d.result d.ensures.0 refl c.tick-o.result _ _ _ u c.tick-o.ensures.0 e.0 e.1 e.2 in
    record { returned = p.returned; told = p.told; left = p.left; listed = listed a (Tick c.args.room) d.result d.ensures.0 c.tick-o.result c.args.list.now _ u c.tick-o.ensures.0 c.tick-o.ensures.1 }

pub returns : goal.returns
returns c =
    let a = c.args.area.now in
    let u = unfit_by a (Tick c.args.room) false refl (long_fit c.args.area.now _ _ _ c.if-area-lt65536.false c.decode-s.ensures.0 c.decode-s.ensures.1 refl _ c.is_area_sound.ensures ∙ c.if-is_area_sound.false) in
    let p = refused_1 a (Tick c.args.room) _ _ u c.refuse-2.ensures.0 c.refuse-2.ensures.1 in
    record { returned = p.returned; told = p.told; left = p.left; listed = unfit_list a (Tick c.args.room) _ u }
