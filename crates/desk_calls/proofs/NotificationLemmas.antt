-- Whether anything follows from a desk's call.
use Rattle.std.proofs.Common.{◌≡◌, ◌≢◌, ℕ, zero, suc, ◌<◌, Bool, true, false, List, [], ◌∷◌, ◌++◌, length, refl, arith}
use Rattle.std.specs.Prelude.{Option, None, Some, IfSome, is_some, ◌||◌, slice_get, flat_map, if◌then◌else◌}
use Rattle.std.specs.Option.{option_map_or}
use Rattle.std.proofs.lemmas.Option.{IfSome_then}
use Rattle.members.specs.declared.order.Row.{Row}
use Rattle.settings.specs.declared.settings.LegSettings.{LegSettings}
use Rattle.desk.specs.declared.effect.Effect.{Effect}
use Rattle.tmmbr_tuple.specs.declared.ssrc.Ssrc.{Ssrc}
use Rattle.events.specs.declared.output.Out.{Out}
use Rattle.events.specs.declared.output.Out.TheVariants.{Send}
use Rattle.desk_calls.specs.declared.notification.Notification.{Notification}
use Rattle.announcement.specs.Entries.{entries_of}
use Rattle.desk_calls.specs.Head.{Identity, report_head}
use Rattle.settings.specs.Links.{LinkTable}
use Rattle.desk_calls.specs.Notification.{tells, is_changed, IsAmong, notice_to, to_publisher, tmmbn_bytes, pli_bytes, requests_bytes, others_of, notification_datagrams}

some-left : {X : Type 0} (xs ys : List X) → xs ≢ [] → xs ++ ys ≢ []
some-left [] ys some = absurd (some refl)
some-left (x ∷ xs) ys some = λ e. cc

-- a list with an element at this place gives what that element gives
some-at : {X : Type 0} (f : X → Out) (xs : List X) (k : ℕ) → k < length xs → option_map_or (λ x. f x ∷ []) (slice_get xs k) [] ≢ []
some-at f [] k within = absurd (omega arith)
some-at f (x ∷ xs) zero within = λ e. cc
some-at f (x ∷ xs) (suc k) within = some-at f xs k (omega arith)

-- of the four parts one is there
some_part : (changed pli : Bool) (asked : Option ℕ) (requests others picture : List Out) (notice : ℕ → List Out)
    → requests ≢ [] → picture ≢ [] → IfSome asked (λ leg. notice leg ≢ []) → (is_some asked || (changed || pli)) ≡ true
    → (if changed then requests else []) ++ (option_map_or notice asked [] ++ ((if changed then others else []) ++ (if pli then picture else []))) ≢ []
some_part true pli asked requests others picture notice some_requests some_picture some_notice told =
    some-left requests (option_map_or notice asked [] ++ (others ++ (if pli then picture else []))) some_requests
some_part false pli (Some leg) requests others picture notice some_requests some_picture some_notice told =
    some-left (notice leg) (if pli then picture else []) some_notice
some_part false true None requests others picture notice some_requests some_picture some_notice told = some_picture
some_part false false None requests others picture notice some_requests some_picture some_notice told = cc

no_part : (changed pli : Bool) (asked : Option ℕ) (requests others picture : List Out) (notice : ℕ → List Out)
    → (is_some asked || (changed || pli)) ≡ false
    → (if changed then requests else []) ++ (option_map_or notice asked [] ++ ((if changed then others else []) ++ (if pli then picture else []))) ≡ []
no_part changed pli (Some leg) requests others picture notice told = cc
no_part true pli None requests others picture notice told = cc
no_part false true None requests others picture notice told = cc
no_part false false None requests others picture notice told = refl

pub something_told : (table : LinkTable) (unit : Identity) (rows : List Row) (n : Notification) (e : Effect) → IsAmong table n → tells n e ≡ true
    → notification_datagrams table unit rows n e ≢ []
something_told table unit rows n e among told =
    let entries = entries_of e.set.items in
    some_part (is_changed e) n.pli n.asked_by
    (to_publisher table unit n.publisher (λ source. requests_bytes source e))
    (flat_map (notice_to table unit entries) (others_of table rows n))
    (to_publisher table unit n.publisher (pli_bytes unit))
    (notice_to table unit entries)
    (some-at (λ (source : Ssrc). Send n.publisher (report_head unit ++ requests_bytes source e)) table.endpoints n.publisher among.publisher)
    (some-at (λ (source : Ssrc). Send n.publisher (report_head unit ++ pli_bytes unit source)) table.endpoints n.publisher among.publisher)
    (IfSome_then n.asked_by among.asked_by
    (λ leg within. some-at (λ (l : LegSettings). Send l.subscriber (report_head unit ++ tmmbn_bytes l.out_ssrc entries)) table.legs leg within))
    told

pub nothing_told : (table : LinkTable) (unit : Identity) (rows : List Row) (n : Notification) (e : Effect) → tells n e ≡ false
    → notification_datagrams table unit rows n e ≡ []
nothing_told table unit rows n e told =
    let entries = entries_of e.set.items in
    no_part (is_changed e) n.pli n.asked_by
    (to_publisher table unit n.publisher (λ source. requests_bytes source e))
    (flat_map (notice_to table unit entries) (others_of table rows n))
    (to_publisher table unit n.publisher (pli_bytes unit))
    (notice_to table unit entries)
    told
