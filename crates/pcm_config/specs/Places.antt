-- The places of a configuration and the kinds of its faults, by their words.
use Rattle.std.specs.Prelude.{ℕ, List, [], ◌∷◌, codes}
use Rattle.pcm_config.specs.declared.fault.ConfigKind.{ConfigKind}
use Rattle.pcm_config.specs.declared.fault.ConfigKind.TheVariants.{Long, Toml, Key, Kind, Range, Name, Count, Missing, Shape, Coef, Container, Capture}
use Rattle.pcm_config.specs.declared.place.ConfigPlace.{ConfigPlace}
use Rattle.pcm_config.specs.declared.place.ConfigPlace.TheVariants.{Top, Device, Vchans, Files, Tables, Eq, DeviceFormat, DeviceChannels, DeviceRate, DeviceHwBlock, DeviceHwBlocks, DeviceContainer, DeviceCapture, VchansPlay, VchansRecord, VchansQuality, VchansRate, VchansChannels, VchansMapped}

-- the word that names a kind
abbrev pub config_kind_word : ConfigKind → List ℕ
config_kind_word Long = codes "long"
config_kind_word Toml = codes "toml"
config_kind_word Key = codes "key"
config_kind_word Kind = codes "kind"
config_kind_word Range = codes "range"
config_kind_word Name = codes "name"
config_kind_word Count = codes "count"
config_kind_word Missing = codes "missing"
config_kind_word Shape = codes "shape"
config_kind_word Coef = codes "coef"
config_kind_word Container = codes "container"
config_kind_word Capture = codes "capture"

-- the words that name a place
abbrev pub place_word : ConfigPlace → List ℕ
place_word Top = codes "top"
place_word Device = codes "device"
place_word Vchans = codes "vchans"
place_word Files = codes "files"
place_word Tables = codes "tables"
place_word Eq = codes "eq"
place_word DeviceFormat = codes "device.format"
place_word DeviceChannels = codes "device.channels"
place_word DeviceRate = codes "device.rate"
place_word DeviceHwBlock = codes "device.hw_block"
place_word DeviceHwBlocks = codes "device.hw_blocks"
place_word DeviceContainer = codes "device.container"
place_word DeviceCapture = codes "device.capture"
place_word VchansPlay = codes "vchans.play"
place_word VchansRecord = codes "vchans.record"
place_word VchansQuality = codes "vchans.quality"
place_word VchansRate = codes "vchans.rate"
place_word VchansChannels = codes "vchans.channels"
place_word VchansMapped = codes "vchans.mapped"

-- the key at which a place stands in its table; the top stands in none
abbrev pub key_of : ConfigPlace → List ℕ
key_of Top = []
key_of Device = codes "device"
key_of Vchans = codes "vchans"
key_of Files = codes "files"
key_of Tables = codes "tables"
key_of Eq = codes "eq"
key_of DeviceFormat = codes "format"
key_of DeviceChannels = codes "channels"
key_of DeviceRate = codes "rate"
key_of DeviceHwBlock = codes "hw_block"
key_of DeviceHwBlocks = codes "hw_blocks"
key_of DeviceContainer = codes "container"
key_of DeviceCapture = codes "capture"
key_of VchansPlay = codes "play"
key_of VchansRecord = codes "record"
key_of VchansQuality = codes "quality"
key_of VchansRate = codes "rate"
key_of VchansChannels = codes "channels"
key_of VchansMapped = codes "mapped"

-- what stands at the top of a configuration: three tables, and the arrays of filters and of sections
abbrev pub top_places : List ConfigPlace
top_places = Device ∷ Vchans ∷ Files ∷ Tables ∷ Eq ∷ []

-- what may be settled of the device
abbrev pub device_places : List ConfigPlace
device_places = DeviceFormat ∷ DeviceChannels ∷ DeviceRate ∷ DeviceHwBlock ∷ DeviceHwBlocks ∷ DeviceContainer ∷ DeviceCapture ∷ []

-- what may be settled of the channels of clients, and of their mix
abbrev pub vchans_places : List ConfigPlace
vchans_places = VchansPlay ∷ VchansRecord ∷ VchansQuality ∷ VchansRate ∷ VchansChannels ∷ VchansMapped ∷ []
