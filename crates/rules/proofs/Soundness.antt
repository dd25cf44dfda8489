-- The test for damage: reached tables pass it, so no call on one is refused 1; and in any sound tables every step but the linking in leaves
-- them sound. May use all rooms before.
pub mod SoundShape
pub mod SoundReached
pub mod Refusals
pub mod SoundKept
pub mod SoundSheets
